-- Accounts and the rows of sessions that are challenged for them.
use Rattle.std.proofs.Common.{◌≡◌, ℕ, ◌<◌, true, false, cond, List, length, nat_lt, Option, Some, None, slice_get, refl, sym, ap, ◌∙◌, arith}
use Rattle.std.proofs.lemmas.Bool.Decides.{nat_tests}
use Rattle.std.proofs.lemmas.List.{length-map}
use Rattle.request_catalogue.specs.declared.texts.Name.{Name}
use Rattle.otp_ledger.specs.Accounts.{LedgerParts, state_at}
use Rattle.otp_ledger.specs.Standing.{HoldsAtMost, StandsFor, state_by}
use Rattle.otp_ledger.proofs.StandingLemmas.{some_there, stands_at}
use Rattle.policy_model.specs.declared.account.Account.{Account}
use Rattle.policy_model.specs.declared.event.Event.{Event}
use Rattle.policy_model.specs.Logins.{challenged_user, was_decoyed}
use Rattle.policy_model.specs.Settings.{Settings, account_number}
use Rattle.policy_model.specs.Cases.{is_holder}
use Rattle.session_core.specs.Deciding.{account_at}
use Rattle.session_laws.specs.Numbered.{HoldsOnly, IsNumbered}
use Rattle.session_laws.proofs.Numbers.{numbered_by_number}
use Rattle.session_laws.proofs.Permits.{same_some}
use Rattle.session_table.specs.declared.rows.SessionRow.{SessionRow}
use Rattle.session_table.specs.Standing.{RowStands, has_taken, number_by}

pub as_many : (l : LedgerParts) (journal : List Event) → StandsFor l journal → length l.accounts ≡ length l.setup.accounts
as_many l journal st = ap length st.accounts ∙ length-map l.setup.accounts (state_by journal)

-- the user that a session is challenged for, by no decoy, and the account
pub record IsUser (setup : Settings) (journal : List Event) (session number : ℕ) : Type 0 where
  pub user : Name
  pub account : Account
  pub challenged : challenged_user journal session ≡ Some user
  pub numbered : IsNumbered setup user number account

pub user_is : (setup : Settings) (row : SessionRow) (journal : List Event) (session : ℕ) → RowStands setup row journal session → has_taken row.phase ≡ true → was_decoyed journal session ≡ false → IsUser setup journal session row.account
user_is setup row journal session r has real = go (challenged_user journal session) refl (sym (ap (λ b. cond b (Some (length setup.accounts)) (number_by setup (challenged_user journal session))) real) ∙ r.account has) where
  go : (o : Option Name) → challenged_user journal session ≡ o → number_by setup (challenged_user journal session) ≡ Some row.account → IsUser setup journal session row.account
  go None is h = let none : number_by setup None ≡ Some row.account = sym (ap (number_by setup) is) ∙ h in absurd cc
  go (Some user) is h =
      let number : account_number setup user ≡ Some row.account = sym (ap (number_by setup) is) ∙ h in
      let n = numbered_by_number setup user row.account number in
      record { user = user; account = n.0; challenged = is; numbered = n.1 }

-- a decoy's account is the number of accounts
pub decoy_number_is : (setup : Settings) (row : SessionRow) (journal : List Event) (session : ℕ) → RowStands setup row journal session → has_taken row.phase ≡ true → was_decoyed journal session ≡ true → row.account ≡ length setup.accounts
decoy_number_is setup row journal session r has decoyed =
    same_some row.account (length setup.accounts) (sym (r.account has) ∙ ap (λ b. cond b (Some (length setup.accounts)) (number_by setup (challenged_user journal session))) decoyed)

pub account_there : (l : LedgerParts) (row : SessionRow) → row.account < length l.accounts → account_at l row ≡ Some row.account
account_there l row lt =
    let test : nat_lt row.account (length l.accounts) ≡ true = grind (arith, nat_tests, lt) in
    ap (λ b. cond b (Some row.account) None) test

pub account_none : (l : LedgerParts) (row : SessionRow) → row.account ≡ length l.accounts → account_at l row ≡ None
account_none l row is =
    let test : nat_lt row.account (length l.accounts) ≡ false = grind (arith, nat_tests, is) in
    ap (λ b. cond b (Some row.account) None) test

-- what a session holds at most, by the ledger
pub holds_at_most : (l : LedgerParts) (journal : List Event) (session number : ℕ) → StandsFor l journal → HoldsOnly l.setup journal session number → HoldsAtMost l session number
holds_at_most l journal session number st only = record { at_most = λ n lt holds. go n lt holds (some_there l.setup.accounts n (inside n lt)) } where
  inside : (n : ℕ) → n < length l.accounts → n < length l.setup.accounts
  inside n lt = omega (arith, lt, as_many l journal st)

  go : (n : ℕ) → n < length l.accounts → is_holder session (state_at l n).holder ≡ true → (a : Account) × (slice_get l.setup.accounts n ≡ Some a) → n ≡ number
  go n lt holds a = only.only n a.0 a.1 (sym (ap (λ s. is_holder session s.holder) (stands_at l journal n a.0 st a.1)) ∙ holds)
