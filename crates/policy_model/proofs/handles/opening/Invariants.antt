use Rattle.std.proofs.Common.{◌≡◌, drop}
use Rattle.policy_model.specs.Handles.{handle_opening}
use Rattle.policy_model.proofs.handles.opening.Given as goal

abbrev pub invariant-loop-i : goal.invariant-loop-i
invariant-loop-i l = handle_opening l.journal l.session l.handle ≡ handle_opening (drop l.i l.journal) l.session l.handle
