use Rattle.std.proofs.Common.{◌∙◌, ◌<◌, List, length, map, get_or, refl, ap, subst, sym}
use Rattle.std.proofs.lemmas.List.{length-set}
use Rattle.otp_ledger.specs.declared.rows.AccountRow.{AccountRow}
use Rattle.otp_ledger.specs.Accounts.{LedgerParts, holding}
use Rattle.otp_ledger.specs.Kept.{AreEntries}
use Rattle.otp_ledger.specs.Passwords.{all_of}
use Rattle.otp_ledger.specs.Rows.{held, no_row, state_of}
use Rattle.policy_model.specs.Settings.{IsInRange}
use Rattle.otp_ledger.specs.Standing.{StandsTaken}
use Rattle.otp_ledger.proofs.GoingLemmas.{stands_taken}
use Rattle.otp_ledger.proofs.EntryLemmas.{entries_row}
use Rattle.otp_ledger.proofs.RowLemmas.{changed_view, few_set, row_within, short_set}
use Rattle.otp_ledger.proofs.ledger.Ledger.hold.Goals as goal

pub invariant_of-self : goal.invariant_of-self
invariant_of-self c =
    let rows = c.self.inside.rows.items in
    let inv = c.self.invariant in
    let lt : c.args.account < length rows = row_within rows c.args.account (subst (λ (l : LedgerParts). c.args.account < length l.accounts) (sym c.self.view_is) c.requires) in
    let row : AccountRow = held (get_or rows c.args.account no_row) c.args.session c.args.now in
    record {
      in_range = inv.in_range;
      passwords = inv.passwords;
      entries = subst (λ (rs : List AccountRow). AreEntries (all_of c.self.inside.passwords) (map state_of rs)) (sym c.take.ensures) (entries_row (all_of c.self.inside.passwords) rows row c.args.account inv.entries lt refl);
      few = rw c.take.ensures (few_set rows row c.args.account inv.few lt (inv.few c.args.account no_row lt));
      short = rw c.take.ensures (short_set rows row c.args.account inv.short lt (inv.short c.args.account no_row lt));
      room = inv.room;
      accounts = ap length c.take.ensures ∙ length-set rows c.args.account row ∙ inv.accounts;
      named = inv.named;
      numbers = inv.numbers;
    }

pub returns-clause-value : goal.returns-clause-value
returns-clause-value c =
    let rows = c.self.inside.rows.items in
    let lt : c.args.account < length rows = row_within rows c.args.account (subst (λ (l : LedgerParts). c.args.account < length l.accounts) (sym c.self.view_is) c.requires) in
    changed_view c.self.inside.setup rows c.take.new.rows.items c.self.inside.spent c.self.inside.cap c.args.account (held (get_or rows c.args.account no_row) c.args.session c.args.now) (λ s. holding s c.args.session c.args.now) (λ n. n) c.args.self.now c.self.view_is lt c.take.ensures refl

pub returns-clause-stands : goal.returns-clause-stands
returns-clause-stands c =
    let rows = c.self.inside.rows.items in
    let lt : c.args.account < length rows = row_within rows c.args.account (subst (λ (l : LedgerParts). c.args.account < length l.accounts) (sym c.self.view_is) c.requires) in
    let range : IsInRange c.args.self.now.setup = subst (λ (l : LedgerParts). IsInRange l.setup) c.self.view_is c.self.invariant.in_range in
    subst (λ (l : LedgerParts). StandsTaken c.args.self.now c.args.account c.args.session c.args.now l) (sym (changed_view c.self.inside.setup rows c.take.new.rows.items c.self.inside.spent c.self.inside.cap c.args.account (held (get_or rows c.args.account no_row) c.args.session c.args.now) (λ s. holding s c.args.session c.args.now) (λ n. n) c.args.self.now c.self.view_is lt c.take.ensures refl)) (stands_taken c.args.self.now c.args.account c.args.session c.args.now range)
