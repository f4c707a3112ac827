use Rattle.std.proofs.Common.{◌≡◌, length}
use Rattle.audit_check.specs.History.{AreEmpty}
use Rattle.audit_check.proofs.history.no_replies.Given as goal

abbrev pub invariant-loop-i : goal.invariant-loop-i
invariant-loop-i l = record {
  same : length l.replies.items ≡ l._i;
  none : AreEmpty l.replies.items;
}
