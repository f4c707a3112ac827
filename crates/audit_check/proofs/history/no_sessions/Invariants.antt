use Rattle.std.proofs.Common.{◌≡◌, length}
use Rattle.audit_check.specs.Seats.{AreVacant}
use Rattle.audit_check.proofs.history.no_sessions.Given as goal

abbrev pub invariant-loop-i : goal.invariant-loop-i
invariant-loop-i l = record {
  same : length l.seats.items ≡ l._i;
  none : AreVacant l.seats.items;
}
