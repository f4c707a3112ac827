-- The grant that a permitted OPEN is for.
use Rattle.std.proofs.Common.{◌≡◌, ℕ, zero, suc, ◌<◌, ◌≤◌, Bool, true, false, ◌&&◌, ◌||◌, cond, eqb, nat_le, nat_lt, List, [], ◌∷◌, length, Option, Some, None, slice_get, refl, sym, ap, subst, ◌∙◌, arith, inl, inr, ◌⊎◌}
use Rattle.std.specs.Prelude.{is_some, position, unwrap_or}
use Rattle.std.specs.List.{find, list_all, position_or_len}
use Rattle.std.proofs.lemmas.Bool.{and_parts, cases_lt}
use Rattle.std.proofs.lemmas.Bool.Decides.{nat_tests}
use Rattle.std.proofs.lemmas.List.Folds.{find_at}
use Rattle.std.proofs.lemmas.List.Quantifiers.{position-Some}
use Rattle.request_catalogue.specs.declared.kind.Kind.TheVariants as kinds
use Rattle.request_catalogue.specs.declared.texts.Label.{Label}
use Rattle.otp_ledger.proofs.GoingLemmas.{accounts_legal}
use Rattle.policy_model.specs.declared.account.Account.{Account}
use Rattle.policy_model.specs.declared.account.Grant.{Grant}
use Rattle.policy_model.specs.declared.event.Ask.{Ask}
use Rattle.policy_model.specs.declared.event.Ask.TheVariants as asks
use Rattle.policy_model.specs.declared.event.Decision.TheVariants.{Permit}
use Rattle.policy_model.specs.declared.event.Event.{Event}
use Rattle.policy_model.specs.Asks.{came_by_frame, is_permit, opens_file, request_number, value_of, label_named}
use Rattle.policy_model.specs.Cases.{is_open, account_named, grant_verdict, grants_of}
use Rattle.policy_model.specs.Handles.{free_handle_of, live_handles_of}
use Rattle.policy_model.specs.Journal.{ask_count}
use Rattle.policy_model.specs.Legal.{IsNext}
use Rattle.policy_model.specs.Logins.{verified_user}
use Rattle.policy_model.specs.Phases.{is_over, phase_of, table_row}
use Rattle.policy_model.specs.Settings.{IsInRange, Settings, are_distinct, are_grants, is_account, is_number, same_label}
use Rattle.policy_model.specs.Verdict.{kind_verdict, open_verdict, request_verdict}
use Rattle.session_core.specs.Settling.{grant_in}
use Rattle.session_core.proofs.AccountLemmas.{user_is}
use Rattle.session_laws.proofs.HandleLaws.{opened_in_user}
use Rattle.session_laws.proofs.Permits.{permit_from, request_permit, row_permit}
use Rattle.session_table.specs.declared.rows.SessionRow.{SessionRow}
use Rattle.session_table.specs.Standing.{RowStands, grant_number, grants_at, has_taken, is_logged_in}

-- 1. A grant that is found has a number

nothing_past : {X : Type 0} (xs : List X) (n : ℕ) → length xs ≤ n → slice_get xs n ≡ None
nothing_past [] n le = refl
nothing_past (x ∷ xs) zero le = absurd (omega arith)
nothing_past (x ∷ xs) (suc n) le = nothing_past xs n (omega arith)

has_place : {X : Type 0} (p : X → Bool) (xs : List X) → is_some (find p xs) ≡ true → position p xs ≡ Some (unwrap_or (position p xs) 0)
has_place p xs h = go (cases_lt (position_or_len p xs) (length xs)) where
  go : (position_or_len p xs < length xs) ⊎ (length xs ≤ position_or_len p xs) → position p xs ≡ Some (unwrap_or (position p xs) 0)
  go (inl lt) =
      let test : nat_lt (position_or_len p xs) (length xs) ≡ true = grind (arith, nat_tests, lt) in
      let is : position p xs ≡ Some (position_or_len p xs) = ap (λ b. cond b (Some (position_or_len p xs)) None) test in
      is ∙ sym (ap (λ o. Some (unwrap_or o 0)) is)
  go (inr ge) =
      let none : is_some (find p xs) ≡ false = ap is_some (find_at p xs ∙ nothing_past xs (position_or_len p xs) ge) in
      let wrong : true ≡ false = sym h ∙ none in
      absurd cc

-- 2. What is permitted is granted

abbrev granted_in : List Grant → Option Label → Bool
granted_in grants None = false
granted_in grants (Some name) = is_some (find (λ g. same_label g.name name) grants)

granted : (free mode value : ℕ) (o : Option Grant) → grant_verdict free mode o ≡ Permit value → is_some o ≡ true
granted free mode value None h = absurd cc
granted free mode value (Some grant) h = refl

open_judged : (setup : Settings) (journal : List Event) (session : ℕ) (ask : Ask) (value : ℕ) → is_open ask ≡ true → request_verdict setup journal session ask ≡ Permit value → granted_in (grants_of (account_named setup (verified_user journal session))) (label_named ask) ≡ true
unfolding kind_verdict open_verdict
open_judged setup journal session (asks.OpenFile mode name) value is h =
    let a = permit_from (eqb session 0 || is_over journal session) 6 (request_number (asks.OpenFile mode name)) value _ h in
    let b = permit_from (eqb (ask_count journal session) setup.requests) 1 setup.requests value _ a.1 in
    let r = row_permit setup journal session kinds.OpenFile (asks.OpenFile mode name) (table_row (phase_of journal session) kinds.OpenFile) value b.1 in
    let o = permit_from (nat_le 8 (length (live_handles_of journal session))) 19 8 value _ r.1 in
    granted (free_handle_of journal session) mode value (find (λ g. same_label g.name name) (grants_of (account_named setup (verified_user journal session)))) o.1
open_judged setup journal session _ value is h = absurd cc

open_by_frame : (ask : Ask) → is_open ask ≡ true → came_by_frame ask ≡ true
open_by_frame (asks.OpenFile mode name) h = refl
open_by_frame _ h = absurd cc

number_found : (grants : List Grant) (o : Option Label) → granted_in grants o ≡ true → grant_number grants o ≡ Some (unwrap_or (grant_number grants o) 0)
number_found grants None h = absurd cc
number_found grants (Some name) h = has_place (λ (g : Grant). same_label g.name name) grants h

-- the grant that a permitted OPEN of a session is for
pub grant_found : (setup : Settings) (row : SessionRow) (journal : List Event) (e : Event) → RowStands setup row journal e.session → IsNext setup journal e → opens_file e ≡ true → grant_number (grants_at setup row.account) (label_named e.ask) ≡ Some (grant_in setup row e)
grant_found setup row journal e r next opened =
    let both = and_parts (is_open e.ask) (is_permit e.decision) opened in
    let phase = r.phase ∙ opened_in_user setup journal e next opened in
    let logged : is_logged_in row.phase ≡ true = ap is_logged_in phase in
    let u = user_is setup row journal e.session r (ap has_taken phase) (r.real logged) in
    let grants : grants_of (account_named setup (verified_user journal e.session)) ≡ grants_at setup row.account = ap (λ o. grants_of (account_named setup o)) (r.user logged ∙ u.challenged) ∙ ap grants_of (u.numbered.found ∙ sym u.numbered.stands) in
    let found = open_judged setup journal e.session e.ask (value_of e.decision) both.0 (request_permit setup journal e next (open_by_frame e.ask both.0) both.1) in
    number_found (grants_at setup row.account) (label_named e.ask) (subst (λ (gs : List Grant). granted_in gs (label_named e.ask) ≡ true) grants found)

-- 3. Grants are few

all_at : {X : Type 0} (p : X → Bool) (xs : List X) (n : ℕ) (x : X) → list_all p xs ≡ true → slice_get xs n ≡ Some x → p x ≡ true
all_at p [] n x all h = absurd cc
all_at p (y ∷ ys) zero x all h = let same : y ≡ x = cc in subst (λ z. p z ≡ true) same (and_parts (p y) (list_all p ys) all).0
all_at p (y ∷ ys) (suc n) x all h = all_at p ys n x (and_parts (p y) (list_all p ys) all).1 h

pub grants_few : (setup : Settings) (n : ℕ) (a : Account) → IsInRange setup → slice_get setup.accounts n ≡ Some a → length a.grants ≤ 64
grants_few setup n a range there =
    let fits : is_account a ≡ true = all_at is_account setup.accounts n a (accounts_legal setup range) there in
    let own : are_grants a.grants ≡ true = (and_parts (is_number 1 4294967294 a.uid && nat_le a.sequence 9999) (are_grants a.grants) fits).1 in
    few (length a.grants) (list_all (λ (g : Grant). is_number 1 3 g.mode) a.grants) (are_distinct (λ (x y : Grant). same_label x.name y.name) a.grants) own where
      few : (k : ℕ) (b c : Bool) → (nat_le k 64 && b && c) ≡ true → k ≤ 64
      few k b c h = let test : nat_le k 64 ≡ true = (and_parts (nat_le k 64) b (and_parts (nat_le k 64 && b) c h).0).0 in grind (arith, nat_tests, test)

pub place_few : (grants : List Grant) (o : Option Label) (n : ℕ) → length grants ≤ 64 → grant_number grants o ≡ Some n → n < 64
place_few grants None n le h = absurd cc
place_few grants (Some name) n le h =
    let at = position-Some (λ (g : Grant). same_label g.name name) grants n (record { name = name; mode = 0 }) h in
    omega (arith, at.0, le)
