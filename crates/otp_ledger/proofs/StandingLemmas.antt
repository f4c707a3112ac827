-- What a ledger that stands for a journal decides.
use Rattle.std.proofs.Common.{◌≡◌, ℕ, zero, suc, ◌-◌, ◌<◌, ◌≤◌, Bool, true, false, not, cond, List, [], ◌∷◌, length, map, get_or, nat_lt, Option, Some, None, slice_get, refl, sym, ap, subst, ◌∙◌, arith, inl, inr, ◌⊎◌}
use Rattle.std.specs.Prelude.{◌==◌, position}
use Rattle.std.specs.List.{find, position_or_len}
use Rattle.std.proofs.lemmas.Bool.{cases_lt}
use Rattle.std.proofs.lemmas.Bool.Decides.{nat_tests}
use Rattle.std.proofs.lemmas.List.Folds.{find_at}
use Rattle.std.proofs.lemmas.Slice.Eq.{bytes_eq-Decides}
use Rattle.request_catalogue.proofs.TextLemmas.{same_from_name_bytes}
use Rattle.request_catalogue.specs.declared.rules.TheConstants.{HOLD_LOST, NO_READING}
use Rattle.request_catalogue.specs.declared.texts.Name.{Name}
use Rattle.request_catalogue.specs.TextBytes.{name_bytes}
use Rattle.policy_model.specs.declared.account.Account.{Account}
use Rattle.policy_model.specs.declared.event.Decision.TheVariants.{Deny}
use Rattle.policy_model.specs.declared.event.Event.{Event}
use Rattle.policy_model.specs.Logins.{account_of, holder_of, last_taking_of, replies_of, session_taking, was_given_up}
use Rattle.policy_model.specs.Settings.{Settings, account_number, same_name}
use Rattle.policy_model.specs.Verdict.{account_verdict, user_verdict}
use Rattle.policy_model.specs.Cases.{is_holder, readings_verdict}
use Rattle.otp_ledger.specs.Accounts.{AccountState, LedgerParts, new_ledger, new_state, no_state, state_at}
use Rattle.otp_ledger.specs.Decisions.{challenge_decision, numbered_decision, reply_decision, state_decision}
use Rattle.otp_ledger.specs.Standing.{StandsFor, state_by}
use Rattle.otp_ledger.proofs.DecisionLemmas.{found_passes}

-- the element of a number, if there is one
abbrev at_number : {X : Type 0} → List X → Option ℕ → Option X
at_number xs None = None
at_number xs (Some n) = slice_get xs n

nothing_past : {X : Type 0} (xs : List X) (n : ℕ) → length xs ≤ n → slice_get xs n ≡ None
nothing_past [] n le = refl
nothing_past (x ∷ xs) zero le = absurd (omega arith)
nothing_past (x ∷ xs) (suc n) le = nothing_past xs n (omega arith)

-- the first that passes, by its place
found_at_place : {X : Type 0} (p : X → Bool) (xs : List X) → find p xs ≡ at_number xs (position p xs)
found_at_place p xs = find_at p xs ∙ go (cases_lt (position_or_len p xs) (length xs)) where
  go : (position_or_len p xs < length xs) ⊎ (length xs ≤ position_or_len p xs) → slice_get xs (position_or_len p xs) ≡ at_number xs (cond (nat_lt (position_or_len p xs) (length xs)) (Some (position_or_len p xs)) None)
  go (inl lt) = let test : nat_lt (position_or_len p xs) (length xs) ≡ true = grind (arith, nat_tests, lt) in sym (ap (λ b. at_number xs (cond b (Some (position_or_len p xs)) None)) test)
  go (inr ge) = let test : nat_lt (position_or_len p xs) (length xs) ≡ false = grind (arith, nat_tests, ge) in nothing_past xs (position_or_len p xs) ge ∙ sym (ap (λ b. at_number xs (cond b (Some (position_or_len p xs)) None)) test)

state_there : {X Y : Type 0} (f : X → Y) (xs : List X) (n : ℕ) (d : Y) (x : X) → slice_get xs n ≡ Some x → get_or (map f xs) n d ≡ f x
state_there f [] n d x h = absurd cc
state_there f (y ∷ ys) zero d x h = let same : y ≡ x = cc in ap f same
state_there f (y ∷ ys) (suc n) d x h = state_there f ys n d x h

pub some_there : {X : Type 0} (xs : List X) (n : ℕ) → n < length xs → (x : X) × (slice_get xs n ≡ Some x)
some_there [] n lt = absurd (omega arith)
some_there (x ∷ xs) zero lt = (x, refl)
some_there (x ∷ xs) (suc n) lt = some_there xs n (omega arith)

-- an account by its name's number
record IsNumbered (setup : Settings) (user : Name) (n : ℕ) : Type 0 where
  account : Account
  place : slice_get setup.accounts n ≡ Some account
  found : account_of setup user ≡ Some account
  name : account.name ≡ user

within_list : {X : Type 0} (p : X → Bool) (xs : List X) (n : ℕ) → position p xs ≡ Some n → n < length xs
within_list p xs n h = go (nat_lt (position_or_len p xs) (length xs)) refl h where
  go : (b : Bool) → nat_lt (position_or_len p xs) (length xs) ≡ b → cond b (Some (position_or_len p xs)) None ≡ Some n → n < length xs
  go true is h =
      let same : position_or_len p xs ≡ n = cc in
      subst (λ k. k < length xs) same (grind (arith, nat_tests, is))
  go false is h = absurd cc

-- no number is beyond the accounts
pub number_below : (setup : Settings) (user : Name) (n : ℕ) → account_number setup user ≡ Some n → n < length setup.accounts
number_below setup user n number = within_list (λ a. same_name a.name user) setup.accounts n number

numbered : (setup : Settings) (user : Name) (n : ℕ) → account_number setup user ≡ Some n → IsNumbered setup user n
numbered setup user n number =
    let a = some_there setup.accounts n (number_below setup user n number) in
    let found : account_of setup user ≡ Some a.0 = found_at_place (λ x. same_name x.name user) setup.accounts ∙ ap (at_number setup.accounts) number ∙ a.1 in
    record { account = a.0; place = a.1; found = found; name = same_from_name_bytes a.0.name user ((bytes_eq-Decides (name_bytes a.0.name) (name_bytes user)).0 (found_passes (λ x. same_name x.name user) setup.accounts a.0 found)) }

pub stands_at : (l : LedgerParts) (journal : List Event) (n : ℕ) (account : Account) → StandsFor l journal → slice_get l.setup.accounts n ≡ Some account → state_at l n ≡ state_by journal account
stands_at l journal n account st place = ap (λ xs. get_or xs n no_state) st.accounts ∙ state_there (state_by journal) l.setup.accounts n no_state account place

-- a CHALLENGE is decided as by the journal
pub challenge_stands : (l : LedgerParts) (journal : List Event) (user : Name) (session now : ℕ) → StandsFor l journal → challenge_decision l user session now ≡ account_verdict l.setup journal session user now (account_of l.setup user)
challenge_stands l journal user session now st = go (account_number l.setup user) refl where
  go : (o : Option ℕ) → account_number l.setup user ≡ o → numbered_decision l user session now o ≡ account_verdict l.setup journal session user now (account_of l.setup user)
  go None number = sym (ap (account_verdict l.setup journal session user now) (found_at_place (λ x. same_name x.name user) l.setup.accounts ∙ ap (at_number l.setup.accounts) number))
  go (Some n) number =
      let a = numbered l.setup user n number in
      ap (state_decision l.setup user session now) (stands_at l journal n a.account st a.place)
      ∙ subst (λ (u : Name). state_decision l.setup u session now (state_by journal a.account) ≡ account_verdict l.setup journal session u now (Some a.account)) a.name refl
      ∙ sym (ap (account_verdict l.setup journal session user now) a.found)

-- a REPLY is decided as by the journal
pub reply_stands : (l : LedgerParts) (journal : List Event) (user : Name) (account session : ℕ) (passwords : List ℕ) → StandsFor l journal → account_number l.setup user ≡ Some account → reply_decision (state_at l account) session passwords ≡ user_verdict l.setup journal session passwords user
reply_stands l journal user account session passwords st number =
    let a = numbered l.setup user account number in
    ap (λ s. reply_decision s session passwords) (stands_at l journal account a.account st a.place)
    ∙ subst (λ (u : Name). reply_decision (state_by journal a.account) session passwords ≡ cond (not (is_holder session (holder_of journal u))) (Deny HOLD_LOST (session_taking (last_taking_of journal u))) (cond (length passwords == 0) (Deny NO_READING 0) (readings_verdict journal passwords (Some a.account)))) a.name refl
    ∙ ap (λ o. cond (not (is_holder session (holder_of journal user))) (Deny HOLD_LOST (session_taking (last_taking_of journal user))) (cond (length passwords == 0) (Deny NO_READING 0) (readings_verdict journal passwords o))) (sym a.found)

-- before the first event
new_by : (a : Account) → new_state a ≡ state_by [] a
unfolding holder_of last_taking_of replies_of was_given_up
new_by a = let all : a.sequence ≡ a.sequence - 0 = omega arith in ap (λ (n : ℕ). record { algo = a.algo; enabled = a.enabled; accepted = a.password ∷ []; sequence = n; taker = 0; moment = 0; holder = None }) all

pub new_stands : (setup : Settings) (cap : ℕ) → StandsFor (new_ledger setup cap) []
new_stands setup cap = record { accounts = go setup.accounts } where
  go : (accounts : List Account) → map new_state accounts ≡ map (state_by []) accounts
  go [] = refl
  go (a ∷ accounts) = ap (λ (s : AccountState). s ∷ map new_state accounts) (new_by a) ∙ ap (λ (states : List AccountState). state_by [] a ∷ states) (go accounts)
