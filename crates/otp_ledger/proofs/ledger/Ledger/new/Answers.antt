use Rattle.std.proofs.Common.{◌≡◌, ◌∙◌, true, [], List, length, map, ap, subst, sym, arith}
use Rattle.std.specs.Prelude.{position}
use Rattle.std.specs.List.{list_all}
use Rattle.std.proofs.lemmas.List.{length-map}
use Rattle.policy_model.specs.declared.account.Account.{Account}
use Rattle.policy_model.specs.Settings.{IsInRange, Settings, is_account, same_name}
use Rattle.otp_ledger.specs.declared.rows.AccountRow.{AccountRow}
use Rattle.otp_ledger.specs.Accounts.{LedgerParts}
use Rattle.otp_ledger.specs.Kept.{AreEntries}
use Rattle.otp_ledger.specs.Passwords.{all_of}
use Rattle.otp_ledger.specs.Rows.{new_row, state_of}
use Rattle.otp_ledger.specs.Standing.{StandsFor}
use Rattle.otp_ledger.proofs.GoingLemmas.{accounts_legal}
use Rattle.otp_ledger.proofs.RowLemmas.{few_new, new_is, short_new}
use Rattle.otp_ledger.proofs.StandingLemmas.{new_stands}
use Rattle.otp_ledger.proofs.ledger.Ledger.new.Goals as goal

pub invariant_of-result : goal.invariant_of-result
invariant_of-result c =
    let accounts = c.as_slice-accounts.result.now in
    let own : accounts ≡ c.args.setup.now.accounts = c.as_slice-accounts.ensures ∙ ap (λ (s : Settings). s.accounts) c.parts.ensures.value in
    let copied : accounts ≡ c.in_ok-copy.field-0.accounts = own ∙ sym (ap (λ (s : Settings). s.accounts) c.in_ok-copy.ensures) in
    record {
      in_range = subst IsInRange (sym c.in_ok-copy.ensures) c.parts.ensures.in_range;
      passwords = c.in_ok-passwords.ensures.are;
      entries = subst (λ (rs : List AccountRow). AreEntries (all_of c.in_ok-passwords.passwords) (map state_of rs)) (sym c.in_ok-rows.ensures) c.in_ok-passwords.ensures.entries;
      few = rw c.in_ok-rows.ensures (few_new accounts);
      short = rw c.in_ok-rows.ensures (short_new accounts (subst (λ (s : List Account). list_all is_account s ≡ true) (sym own) (accounts_legal c.args.setup.now c.parts.ensures.in_range)));
      room = omega (arith, c.in_ok-passwords.ensures.room);
      accounts = ap length c.in_ok-rows.ensures ∙ length-map accounts new_row ∙ ap length copied;
      named = c.in_ok-names.ensures.rising;
      numbers = λ user. c.in_ok-names.ensures.numbers user ∙ ap (position (λ (a : Account). same_name a.name user)) copied;
    }

pub returns-clause-value : goal.returns-clause-value
returns-clause-value c =
    new_is c.args.setup.now c.in_ok-copy.field-0 c.as_slice-accounts.result.now c.in_ok-rows.rows.items c.args.cap c.in_ok-copy.ensures (c.as_slice-accounts.ensures ∙ ap (λ (s : Settings). s.accounts) c.parts.ensures.value) c.in_ok-rows.ensures

pub returns-clause-stands : goal.returns-clause-stands
returns-clause-stands c =
    subst (λ (l : LedgerParts). StandsFor l []) (sym (new_is c.args.setup.now c.in_ok-copy.field-0 c.as_slice-accounts.result.now c.in_ok-rows.rows.items c.args.cap c.in_ok-copy.ensures (c.as_slice-accounts.ensures ∙ ap (λ (s : Settings). s.accounts) c.parts.ensures.value) c.in_ok-rows.ensures)) (new_stands c.args.setup.now c.args.cap)
