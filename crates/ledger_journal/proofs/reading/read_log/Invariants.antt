use Rattle.std.proofs.Common.{length}
use Rattle.ledger_journal.specs.Reads.{IsReadTo}
use Rattle.ledger_journal.proofs.reading.read_log.Given as goal

abbrev pub invariant-loop-bytes : goal.invariant-loop-bytes
invariant-loop-bytes l = IsReadTo l.setup l.image l.rest l.log

abbrev pub decreases-loop-bytes : goal.decreases-loop-bytes
decreases-loop-bytes l = length l.rest
