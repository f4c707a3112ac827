use Rattle.welcome_rows.proofs.Told.{AcceptsSoFar}
use Rattle.welcome_rows.proofs.journal.accepts_after.Given as goal

abbrev pub invariant-loop-place : goal.invariant-loop-place
invariant-loop-place l = AcceptsSoFar l.journal l.texts l.place
