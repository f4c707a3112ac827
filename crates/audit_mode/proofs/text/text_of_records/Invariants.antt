use Rattle.std.proofs.Common.{length}
use Rattle.audit_mode.proofs.TextLemmas.{IsReadTo}
use Rattle.audit_mode.proofs.text.text_of_records.Given as goal

abbrev pub invariant-loop-line : goal.invariant-loop-line
invariant-loop-line l = IsReadTo l.records l.rest l.text.items

abbrev pub decreases-loop-line : goal.decreases-loop-line
decreases-loop-line l = length l.rest
