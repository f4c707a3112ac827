use Rattle.std.proofs.Common.{◌∙◌, ◌<◌, length, ap, subst, sym}
use Rattle.std.proofs.lemmas.List.{get_or_default}
use Rattle.otp_ledger.specs.Accounts.{LedgerParts, current_of, no_state, state_at}
use Rattle.otp_ledger.specs.Rows.{no_row, state_of}
use Rattle.otp_ledger.proofs.RowLemmas.{password_is, row_within, state_is}
use Rattle.otp_ledger.proofs.ledger.Ledger.row.Goals as goal

pub returns-clause-password : goal.returns-clause-password
returns-clause-password c =
    let rows = c.self.inside.rows.items in
    let row = c.index.result.now in
    let lt : c.args.account < length rows = row_within rows c.args.account (subst (λ (l : LedgerParts). c.args.account < length l.accounts) (sym c.self.view_is) c.requires) in
    password_is row
    ∙ ap current_of
    (ap state_of (c.index.ensures ∙ get_or_default rows c.args.account row no_row lt)
    ∙ sym (state_is rows c.args.account no_state lt)
    ∙ ap (λ (l : LedgerParts). state_at l c.args.account) c.self.view_is)
