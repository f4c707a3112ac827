use Rattle.std.proofs.Common.{◌≡◌, ◌∙◌, ◌<◌, ◌≤◌, ◌+◌, List, length, map, get_or, ap, subst, sym, arith}
use Rattle.std.proofs.lemmas.List.{length-set}
use Rattle.otp_hash.specs.Hashing.{hash_of}
use Rattle.otp_ledger.specs.declared.rows.AccountRow.{AccountRow}
use Rattle.otp_ledger.specs.Accounts.{AccountState, LedgerParts, accepting, current_of, no_state, state_at}
use Rattle.otp_ledger.specs.Kept.{AreEntries}
use Rattle.otp_ledger.specs.Passwords.{all_of}
use Rattle.otp_ledger.specs.Rows.{no_row, spending, state_of}
use Rattle.policy_model.specs.Settings.{IsInRange}
use Rattle.otp_ledger.specs.Standing.{StandsReplied}
use Rattle.otp_ledger.proofs.GoingLemmas.{stands_replied}
use Rattle.otp_ledger.proofs.EntryLemmas.{entries_spend}
use Rattle.otp_ledger.proofs.RowLemmas.{changed_view, few_set, password_is, row_within, short_set, state_is, state_of-spending}
use Rattle.otp_ledger.proofs.ledger.Ledger.spend.Goals as goal

pub invariant_of-self : goal.invariant_of-self
invariant_of-self c =
    let rows = c.self.inside.rows.items in
    let inv = c.self.invariant in
    let lt : c.args.account < length rows = row_within rows c.args.account (subst (λ (l : LedgerParts). c.args.account < length l.accounts) (sym c.self.view_is) c.requires.account) in
    let row : AccountRow = get_or rows c.args.account no_row in
    let is : state_at c.args.self.now c.args.account ≡ state_of row = ap (λ (l : LedgerParts). state_at l c.args.account) (sym c.self.view_is) ∙ state_is rows c.args.account no_state lt in
    let some : 0 < row.sequence = subst (λ (s : AccountState). 0 < s.sequence) is c.requires.some in
    let hashes : hash_of row.algo c.args.password ≡ row.password = subst (λ (s : AccountState). hash_of s.algo c.args.password ≡ current_of s) is c.requires.next.hashes ∙ sym (password_is row) in
    let few : row.sequence ≤ row.start = inv.few c.args.account no_row lt in
    record {
      in_range = inv.in_range;
      passwords = c.accept.ensures.are;
      entries = subst (λ (rs : List AccountRow). AreEntries (all_of c.accept.new.self) (map state_of rs)) (sym c.renew.ensures) (entries_spend (all_of c.self.inside.passwords) (all_of c.accept.new.self) rows c.args.account c.args.password inv.entries lt (state_of-spending row c.args.password some few hashes) c.accept.ensures.entries);
      few = rw c.renew.ensures (few_set rows (spending row c.args.password) c.args.account inv.few lt (omega (arith, few)));
      short = rw c.renew.ensures (short_set rows (spending row c.args.password) c.args.account inv.short lt (inv.short c.args.account no_row lt));
      room = omega (arith, inv.room, c.accept.ensures.room);
      accounts = ap length c.renew.ensures ∙ length-set rows c.args.account (spending row c.args.password) ∙ inv.accounts;
      named = inv.named;
      numbers = inv.numbers;
    }

pub returns-clause-value : goal.returns-clause-value
returns-clause-value c =
    let rows = c.self.inside.rows.items in
    let inv = c.self.invariant in
    let lt : c.args.account < length rows = row_within rows c.args.account (subst (λ (l : LedgerParts). c.args.account < length l.accounts) (sym c.self.view_is) c.requires.account) in
    let row : AccountRow = get_or rows c.args.account no_row in
    let is : state_at c.args.self.now c.args.account ≡ state_of row = ap (λ (l : LedgerParts). state_at l c.args.account) (sym c.self.view_is) ∙ state_is rows c.args.account no_state lt in
    let some : 0 < row.sequence = subst (λ (s : AccountState). 0 < s.sequence) is c.requires.some in
    let hashes : hash_of row.algo c.args.password ≡ row.password = subst (λ (s : AccountState). hash_of s.algo c.args.password ≡ current_of s) is c.requires.next.hashes ∙ sym (password_is row) in
    changed_view c.self.inside.setup rows c.renew.new.rows.items c.self.inside.spent c.self.inside.cap c.args.account (spending row c.args.password) (λ s. accepting s c.args.password) (λ n. n + 1) c.args.self.now c.self.view_is lt c.renew.ensures (state_of-spending row c.args.password some (inv.few c.args.account no_row lt) hashes)

pub returns-clause-stands : goal.returns-clause-stands
returns-clause-stands c =
    let rows = c.self.inside.rows.items in
    let inv = c.self.invariant in
    let lt : c.args.account < length rows = row_within rows c.args.account (subst (λ (l : LedgerParts). c.args.account < length l.accounts) (sym c.self.view_is) c.requires.account) in
    let row : AccountRow = get_or rows c.args.account no_row in
    let is : state_at c.args.self.now c.args.account ≡ state_of row = ap (λ (l : LedgerParts). state_at l c.args.account) (sym c.self.view_is) ∙ state_is rows c.args.account no_state lt in
    let some : 0 < row.sequence = subst (λ (s : AccountState). 0 < s.sequence) is c.requires.some in
    let hashes : hash_of row.algo c.args.password ≡ row.password = subst (λ (s : AccountState). hash_of s.algo c.args.password ≡ current_of s) is c.requires.next.hashes ∙ sym (password_is row) in
    let range : IsInRange c.args.self.now.setup = subst (λ (l : LedgerParts). IsInRange l.setup) c.self.view_is c.self.invariant.in_range in
    subst (λ (l : LedgerParts). StandsReplied c.args.self.now c.args.account c.args.password l) (sym (changed_view c.self.inside.setup rows c.renew.new.rows.items c.self.inside.spent c.self.inside.cap c.args.account (spending row c.args.password) (λ s. accepting s c.args.password) (λ n. n + 1) c.args.self.now c.self.view_is lt c.renew.ensures (state_of-spending row c.args.password some (inv.few c.args.account no_row lt) hashes))) (stands_replied c.args.self.now c.args.account c.args.password range c.requires.account)
