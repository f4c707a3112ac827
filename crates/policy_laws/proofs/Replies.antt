-- What holds of accepted passwords after each event of a legal journal.
use Rattle.std.proofs.Common.{◌≡◌, ℕ, Bool, true, false, not, ◌&&◌, ◌||◌, ◌==◌, eqb, nat_eq, List, [], ◌∷◌, ◌++◌, Option, Some, None, refl, sym, ap, subst, ◌∙◌, arith}
use Rattle.std.proofs.lemmas.Bool.{and_parts, or_parts}
use Rattle.std.specs.List.{list_any}
use Rattle.std.specs.Option.{option_to_list}
use Rattle.std.proofs.lemmas.Bool.Decides.{nat_tests}
use Rattle.std.proofs.lemmas.List.{append-nil}
use Rattle.std.proofs.lemmas.List.Folds.{list_any-append}
use Rattle.request_catalogue.specs.declared.texts.Name.{Name}
use Rattle.policy_model.specs.declared.account.Account.{Account}
use Rattle.policy_model.specs.declared.event.Event.{Event}
use Rattle.policy_laws.specs.Consequences.{NoPasswordTwice}
use Rattle.policy_model.specs.Legal.{IsLegal, IsNext}
use Rattle.policy_model.specs.Logins.{account_of, accepted_of, replies_of, reply_for, was_accepted}
use Rattle.policy_model.specs.Settings.{Settings, are_distinct}
use Rattle.policy_model.specs.Verdict.{is_next_password}
use Rattle.policy_model.proofs.LoginLemmas.{replies_of-none, replies_of-push}
use Rattle.session_laws.proofs.ByEvents.{by_events}
use Rattle.session_laws.proofs.Permits.{Accepted, found_name, new_reply, same_some}

-- its account is the user's
pub accepted_next : (setup : Settings) (journal : List Event) (session : ℕ) (user : Name) (password : ℕ) (account : Account) → account_of setup user ≡ Some account → Accepted setup journal session user password → is_next_password journal account password ≡ true
accepted_next setup journal session user password account found a =
    subst (λ x. is_next_password journal x password ≡ true) (same_some a.account account (sym a.found ∙ found)) a.next

is_false : (b : Bool) → not b ≡ true → b ≡ false
is_false true h = absurd cc
is_false false h = refl

-- numbers that are different, and one more that isn't among them
are_distinct-push : (xs : List ℕ) (y : ℕ) → are_distinct ◌==◌ xs ≡ true → list_any (nat_eq y) xs ≡ false → are_distinct ◌==◌ (xs ++ y ∷ []) ≡ true
are_distinct-push [] y h new = refl
are_distinct-push (x ∷ xs) y h new =
    let both = and_parts (not (list_any (eqb x) xs)) (are_distinct ◌==◌ xs) h in
    let apart = or_parts (eqb y x) (list_any (nat_eq y) xs) new in
    let other : eqb x y ≡ false = grind (arith, nat_tests, apart.0) in
    let front : not (list_any (eqb x) (xs ++ y ∷ [])) ≡ true = ap not (list_any-append (eqb x) xs (y ∷ [])) ∙ rw other (ap (λ b. not (b || false)) (is_false (list_any (eqb x) xs) both.0)) in
    ap (λ b. b && are_distinct ◌==◌ (xs ++ y ∷ [])) front ∙ are_distinct-push xs y both.1 apart.1

not_accepted : (journal : List Event) (account : Account) (password : ℕ) → is_next_password journal account password ≡ true → list_any (nat_eq password) (accepted_of journal account) ≡ false
not_accepted journal account password h = is_false (was_accepted journal account password) (and_parts _ (not (was_accepted journal account password)) h).1

-- no password is accepted twice
pub no_password_twice : (setup : Settings) (journal : List Event) → IsLegal setup journal → NoPasswordTwice setup journal
no_password_twice setup journal legal = record { distinct = by_events setup Distinct none more journal legal } where
  Distinct : List Event → Type 0
  Distinct j = (user : Name) (account : Account) → account_of setup user ≡ Some account → are_distinct ◌==◌ (accepted_of j account) ≡ true

  none : Distinct []
  none user account found = ap (λ xs. are_distinct ◌==◌ (account.password ∷ xs)) (replies_of-none account.name)

  more : (j : List Event) (e : Event) → IsNext setup j e → Distinct j → Distinct (j ++ e ∷ [])
  more j e next before user account found = ap (λ xs. are_distinct ◌==◌ (account.password ∷ xs)) (replies_of-push account.name j e) ∙ go (reply_for account.name (record { before = j; event = e })) refl where
    own : account_of setup account.name ≡ Some account
    own = ap (account_of setup) (found_name setup user account found) ∙ found

    go : (o : Option ℕ) → reply_for account.name (record { before = j; event = e }) ≡ o → are_distinct ◌==◌ (account.password ∷ (replies_of j account.name ++ option_to_list o)) ≡ true
    go None is = ap (λ xs. are_distinct ◌==◌ (account.password ∷ xs)) (append-nil (replies_of j account.name)) ∙ before user account found
    go (Some password) is =
        let a = accepted_next setup j e.session account.name password account own (new_reply setup j e account.name password next is) in
        are_distinct-push (accepted_of j account) password (before user account found) (not_accepted j account password a)
