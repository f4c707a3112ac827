use Rattle.session_table.proofs.RowLemmas.{stands_new}
use Rattle.session_table.proofs.rows.SessionRow.new.Goals as goal

pub returns-clause-stands : goal.returns-clause-stands
returns-clause-stands c = rw (c.new.ensures, c.new-2.ensures) (stands_new c.args.session)
