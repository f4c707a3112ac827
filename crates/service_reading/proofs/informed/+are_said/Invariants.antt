use Rattle.std.proofs.Common.{length}
use Rattle.service_reading.proofs.informed.+are_said.Given as goal

abbrev pub decreases-are_said : goal.decreases-are_said
decreases-are_said g l = length l.numbers.now
