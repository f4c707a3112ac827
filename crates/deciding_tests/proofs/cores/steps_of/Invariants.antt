use Rattle.std.proofs.Common.{All}
use Rattle.session_core.specs.Replayed.{IsStepOf}
use Rattle.deciding_tests.proofs.cores.steps_of.Given as goal

abbrev pub invariant-loop-event : goal.invariant-loop-event
invariant-loop-event l = record { steps : All (IsStepOf l.fn.setup) l.steps.items }
