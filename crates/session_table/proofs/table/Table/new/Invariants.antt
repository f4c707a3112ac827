use Rattle.std.proofs.Common.{◌≡◌, None, replicate}
use Rattle.session_table.proofs.table.Table.new.Given as goal

abbrev pub invariant-loop : goal.invariant-loop
invariant-loop l = l.rows.items ≡ replicate l.counter None
