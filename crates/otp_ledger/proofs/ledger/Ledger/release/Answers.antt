use Rattle.std.proofs.Common.{◌∙◌, ◌<◌, List, length, map, get_or, refl, ap, subst, sym}
use Rattle.std.proofs.lemmas.List.{length-set}
use Rattle.otp_ledger.specs.declared.rows.AccountRow.{AccountRow}
use Rattle.otp_ledger.specs.Accounts.{LedgerParts, releasing}
use Rattle.otp_ledger.specs.Kept.{AreEntries}
use Rattle.otp_ledger.specs.Passwords.{all_of}
use Rattle.otp_ledger.specs.Rows.{no_row, released, state_of}
use Rattle.otp_ledger.specs.Standing.{StandsLeft}
use Rattle.otp_ledger.proofs.GoingLemmas.{stands_left}
use Rattle.otp_ledger.proofs.EntryLemmas.{entries_row}
use Rattle.otp_ledger.proofs.RowLemmas.{changed_view, few_set, row_within, short_set}
use Rattle.otp_ledger.proofs.ledger.Ledger.release.Goals as goal

pub invariant_of-self : goal.invariant_of-self
invariant_of-self c =
    let rows = c.self.inside.rows.items in
    let inv = c.self.invariant in
    let lt : c.args.account < length rows = row_within rows c.args.account (subst (λ (l : LedgerParts). c.args.account < length l.accounts) (sym c.self.view_is) c.requires) in
    let row : AccountRow = released (get_or rows c.args.account no_row) c.args.session in
    record {
      in_range = inv.in_range;
      passwords = inv.passwords;
      entries = subst (λ (rs : List AccountRow). AreEntries (all_of c.self.inside.passwords) (map state_of rs)) (sym c.let_go.ensures) (entries_row (all_of c.self.inside.passwords) rows row c.args.account inv.entries lt refl);
      few = rw c.let_go.ensures (few_set rows row c.args.account inv.few lt (inv.few c.args.account no_row lt));
      short = rw c.let_go.ensures (short_set rows row c.args.account inv.short lt (inv.short c.args.account no_row lt));
      room = inv.room;
      accounts = ap length c.let_go.ensures ∙ length-set rows c.args.account row ∙ inv.accounts;
      named = inv.named;
      numbers = inv.numbers;
    }

pub returns-clause-value : goal.returns-clause-value
returns-clause-value c =
    let rows = c.self.inside.rows.items in
    let lt : c.args.account < length rows = row_within rows c.args.account (subst (λ (l : LedgerParts). c.args.account < length l.accounts) (sym c.self.view_is) c.requires) in
    changed_view c.self.inside.setup rows c.let_go.new.rows.items c.self.inside.spent c.self.inside.cap c.args.account (released (get_or rows c.args.account no_row) c.args.session) (λ s. releasing s c.args.session) (λ n. n) c.args.self.now c.self.view_is lt c.let_go.ensures refl

pub returns-clause-stands : goal.returns-clause-stands
returns-clause-stands c =
    let rows = c.self.inside.rows.items in
    let lt : c.args.account < length rows = row_within rows c.args.account (subst (λ (l : LedgerParts). c.args.account < length l.accounts) (sym c.self.view_is) c.requires) in
    subst (λ (l : LedgerParts). StandsLeft c.args.self.now c.args.account c.args.session l) (sym (changed_view c.self.inside.setup rows c.let_go.new.rows.items c.self.inside.spent c.self.inside.cap c.args.account (released (get_or rows c.args.account no_row) c.args.session) (λ s. releasing s c.args.session) (λ n. n) c.args.self.now c.self.view_is lt c.let_go.ensures refl)) (stands_left c.args.self.now c.args.account c.args.session c.requires)
