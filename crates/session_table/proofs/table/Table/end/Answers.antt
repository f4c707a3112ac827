use Rattle.std.proofs.Common.{subst, sym}
use Rattle.session_table.specs.Tables.{StandsEnded, table_ended}
use Rattle.session_table.proofs.TableLemmas.{stands_ended}
use Rattle.session_table.proofs.table.Table.end.Goals as goal

pub returns-clause-stands : goal.returns-clause-stands
returns-clause-stands c =
    subst (λ t. StandsEnded c.args.self.now c.args.worker (table_ended t c.args.worker)) (sym c.self.view_is) (stands_ended c.args.self.now c.args.worker c.requires.worker)
