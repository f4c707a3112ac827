use Rattle.std.proofs.Common.{subst, sym}
use Rattle.session_table.specs.Tables.{StandsBegun, table_begun}
use Rattle.session_table.proofs.TableLemmas.{stands_begun}
use Rattle.session_table.proofs.table.Table.begin.Goals as goal

pub returns-clause-stands : goal.returns-clause-stands
returns-clause-stands c =
    rw c.new.ensures.value
    (subst (λ t. StandsBegun c.args.self.now c.args.worker (table_begun t c.args.worker)) (sym c.self.view_is) (stands_begun c.args.self.now c.args.worker c.requires.worker))
