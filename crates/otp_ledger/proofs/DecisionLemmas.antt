-- What is permitted may be spent.
use Rattle.std.proofs.Common.{◌≡◌, ℕ, Bool, true, false, not, ◌&&◌, ◌==◌, cond, List, [], ◌∷◌, length, Option, Some, None, refl, subst}
use Rattle.std.specs.List.{find, list_any}
use Rattle.std.proofs.lemmas.Bool.{eqb-true}
use Rattle.request_catalogue.specs.declared.rules.TheConstants.{HOLD_LOST, NO_MATCH, NO_READING, PASSWORD_USED}
use Rattle.otp_hash.specs.Hashing.{hash_of}
use Rattle.policy_model.specs.declared.event.Decision.TheVariants.{Deny}
use Rattle.policy_model.specs.Cases.{is_holder}
use Rattle.otp_ledger.specs.Accounts.{AccountState, IsNextPassword, current_of, was_accepted}
use Rattle.otp_ledger.specs.Decisions.{PermitsNext, is_next, matched, reply_decision}

next_password : (state : AccountState) (password : ℕ) → is_next state password ≡ true → IsNextPassword state password
next_password state password h = go (hash_of state.algo password == current_of state) (was_accepted state password) refl refl h where
  go : (a b : Bool) → (hash_of state.algo password == current_of state) ≡ a → was_accepted state password ≡ b → (a && not b) ≡ true → IsNextPassword state password
  go true false hashes unused h = record { hashes = eqb-true (hash_of state.algo password) (current_of state) hashes; unused = unused }
  go true true hashes unused h = absurd cc
  go false b hashes unused h = absurd cc

pub found_passes : {X : Type 0} (p : X → Bool) (xs : List X) (x : X) → find p xs ≡ Some x → p x ≡ true
found_passes p [] x h = absurd cc
found_passes p (y ∷ ys) x h = go (p y) refl h (found_passes p ys x) where
  go : (b : Bool) → p y ≡ b → cond b (Some y) (find p ys) ≡ Some x → (find p ys ≡ Some x → p x ≡ true) → p x ≡ true
  go true is h rest = let same : y ≡ x = cc in subst (λ z. p z ≡ true) same is
  go false is h rest = rest h

pub permits_next : (state : AccountState) (session : ℕ) (passwords : List ℕ) → PermitsNext state (reply_decision state session passwords)
permits_next state session passwords = held (not (is_holder session state.holder)) where
  denied : (b : Bool) → PermitsNext state (cond b (Deny PASSWORD_USED 0) (Deny NO_MATCH 0))
  denied true = tt
  denied false = tt

  found : (o : Option ℕ) → find (is_next state) passwords ≡ o → PermitsNext state (matched state passwords o)
  found (Some password) h = next_password state password (found_passes (is_next state) passwords password h)
  found None h = denied (list_any (was_accepted state) passwords)

  read : (b : Bool) → PermitsNext state (cond b (Deny NO_READING 0) (matched state passwords (find (is_next state) passwords)))
  read true = tt
  read false = found (find (is_next state) passwords) refl

  held : (b : Bool) → PermitsNext state (cond b (Deny HOLD_LOST state.taker) (cond (length passwords == 0) (Deny NO_READING 0) (matched state passwords (find (is_next state) passwords))))
  held true = tt
  held false = read (length passwords == 0)
