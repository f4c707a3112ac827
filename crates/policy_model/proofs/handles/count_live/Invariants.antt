use Rattle.std.proofs.Common.{◌≡◌, ◌≤◌, ◌+◌, drop, length}
use Rattle.policy_model.specs.Handles.{live_handles_of}
use Rattle.policy_model.proofs.handles.count_live.Given as goal

abbrev pub invariant-loop-i : goal.invariant-loop-i
invariant-loop-i l = (l.count + length (live_handles_of (drop l.i l.journal) l.session) ≡ length (live_handles_of l.journal l.session)) × (l.count ≤ l.i)
