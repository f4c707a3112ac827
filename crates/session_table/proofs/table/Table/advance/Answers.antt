use Rattle.std.proofs.Common.{ap, subst, sym, ◌∙◌, List, Option}
use Rattle.session_table.specs.declared.rows.SessionRow.{SessionRow}
use Rattle.session_table.specs.Tables.{StandsKept, TableParts, table_after}
use Rattle.session_table.proofs.TableLemmas.{stands_kept}
use Rattle.session_table.proofs.table.Table.advance.Goals as goal

pub returns-clause-stands : goal.returns-clause-stands
returns-clause-stands c =
    subst (λ t. StandsKept c.args.self.now c.args.worker c.args.event.now c.args.account c.args.grant t)
    (sym (ap (λ (rows : List (Option SessionRow)). (let t : TableParts = record { rows = rows; begun = c.self.inside.begun } in t)) c.put.ensures ∙ ap (λ t. table_after t c.args.worker c.args.event.now c.args.account c.args.grant) c.self.view_is))
    (stands_kept c.args.self.now c.args.worker c.args.event.now c.args.account c.args.grant c.requires.worker)
