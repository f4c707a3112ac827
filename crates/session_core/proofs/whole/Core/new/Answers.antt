use Rattle.std.proofs.Common.{◌≡◌, ◌∙◌, ap, sym, subst}
use Rattle.otp_ledger.specs.Accounts.{LedgerParts, new_ledger}
use Rattle.session_core.specs.Standing.{HasJournal}
use Rattle.session_table.specs.Tables.{TableParts, new_table}
use Rattle.session_core.proofs.StandLemmas.{journal_none}
use Rattle.session_core.proofs.whole.Core.new.Goals as goal

pub invariant_of-result : goal.invariant_of-result
invariant_of-result c =
    let table : c.in_ok-table.table ≡ new_table c.args.setup.now.workers = c.in_ok-table.ensures.value ∙ ap new_table c.workers-workers.ensures.value in
    subst (λ (l : LedgerParts). HasJournal (record { ledger = l; table = c.in_ok-table.table; settled = 0 })) (sym c.in_ok-ledger.ensures.value)
    (subst (λ (t : TableParts). HasJournal (record { ledger = new_ledger c.args.setup.now c.args.cap; table = t; settled = 0 })) (sym table)
    (journal_none c.args.setup.now c.args.cap c.workers-workers.ensures.in_range))
