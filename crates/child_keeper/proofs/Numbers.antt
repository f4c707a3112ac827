-- The account that a permit's number names is the one of the verified user.
use Rattle.std.proofs.Common.{◌≡◌, suc, ◌+◌, ◌<◌, Bool, true, false, not, cond, nat_lt, List, [], ◌∷◌, length, slice_get, Option, Some, None, refl, sym, ap, ◌∙◌, arith, unwrap_or}
use Rattle.std.specs.Prelude.{position}
use Rattle.std.specs.List.{find, position_or_len}
use Rattle.std.proofs.lemmas.Bool.Decides.{nat_tests}
use Rattle.std.proofs.lemmas.Option.{slice_get_within}
use Rattle.request_catalogue.specs.declared.texts.Name.{Name}
use Rattle.policy_model.specs.declared.account.Account.{Account}
use Rattle.policy_model.specs.declared.event.Event.{Event}
use Rattle.policy_model.specs.Asks.{value_of}
use Rattle.policy_model.specs.Settings.{Settings, same_name}
use Rattle.policy_model.specs.Cases.{account_named, number_named}
use Rattle.child_keeper.specs.Tickets.{HandsTo, handed_account, session_role}

find_at : {X : Type 0} (p : X → Bool) (xs : List X) → find p xs ≡ slice_get xs (position_or_len p xs)
find_at p [] = refl
find_at {X} p (x ∷ xs) = go (p x) (find_at p xs) where
  more : suc (position_or_len p xs) ≡ 1 + position_or_len p xs
  more = omega arith

  go : (b : Bool) → find p xs ≡ slice_get xs (position_or_len p xs) → cond b (Some x) (find p xs) ≡ slice_get (x ∷ xs) (cond (not b) (1 + position_or_len p xs) 0)
  go true h = refl
  go false h = h ∙ ap (slice_get (x ∷ xs)) more

position_is : {X : Type 0} (p : X → Bool) (xs : List X) → position_or_len p xs < length xs → position p xs ≡ Some (position_or_len p xs)
position_is p xs lt =
    let test : nat_lt (position_or_len p xs) (length xs) ≡ true = grind (arith, nat_tests, lt) in
    ap (λ b. cond b (Some (position_or_len p xs)) None) test

-- what is found stands at its position
stands_there : {X : Type 0} (p : X → Bool) (xs : List X) (x : X) → find p xs ≡ Some x → slice_get xs (unwrap_or (position p xs) 0) ≡ Some x
stands_there p xs x found =
    let stands : slice_get xs (position_or_len p xs) ≡ Some x = sym (find_at p xs) ∙ found in
    ap (λ o. slice_get xs (unwrap_or o 0)) (position_is p xs (slice_get_within xs (position_or_len p xs) x stands)) ∙ stands

numbered : (setup : Settings) (user : Option Name) (account : Account) → account_named setup user ≡ Some account → slice_get setup.accounts (number_named setup user) ≡ Some account
numbered setup None account found = absurd cc
numbered setup (Some user) account found = stands_there (λ a. same_name a.name user) setup.accounts account found

pub hands_to : (setup : Settings) (user : Option Name) (event : Event) (account : Account) → value_of event.decision ≡ number_named setup user → account_named setup user ≡ Some account → HandsTo setup account event
hands_to setup user event account value found =
    let handed : handed_account setup event ≡ Some account = ap (slice_get setup.accounts) value ∙ numbered setup user account found in
    record {
      named = record { below = slice_get_within setup.accounts (value_of event.decision) account handed };
      handed = handed;
      role = ap (session_role event.session) handed;
    }
