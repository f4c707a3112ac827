use Rattle.std.proofs.Common.{◌≡◌, length}
use Rattle.audit_check.specs.History.{AreIdle}
use Rattle.audit_check.proofs.history.no_events.Given as goal

abbrev pub invariant-loop-i : goal.invariant-loop-i
invariant-loop-i l = record {
  same : length l.recent.items ≡ l._i;
  none : AreIdle l.recent.items;
}
