use Rattle.std.proofs.Common.{◌≡◌, ◌≤◌, drop, length, reverse}
use Rattle.ledger_journal.specs.Logins.{left_of}
use Rattle.ledger_journal.specs.Reads.{AreSeen}
use Rattle.ledger_journal.proofs.passing.left_over.Given as goal

abbrev pub invariant-loop-i : goal.invariant-loop-i
invariant-loop-i l = record {
  within : l.i ≤ length l.logins;
  seen : AreSeen l.setup (drop l.i l.logins) l.seen.items;
  left : reverse l.left.items ≡ left_of l.setup (drop l.i l.logins);
}

abbrev pub decreases-loop-i : goal.decreases-loop-i
decreases-loop-i l = l.i
