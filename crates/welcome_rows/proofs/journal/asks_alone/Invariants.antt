use Rattle.std.proofs.Common.{drop}
use Rattle.welcome_rows.proofs.Asked.{StandsClear}
use Rattle.welcome_rows.proofs.journal.asks_alone.Given as goal

abbrev pub invariant-loop-place : goal.invariant-loop-place
invariant-loop-place l = StandsClear l.user (drop l.place l.journal) → StandsClear l.user l.journal
