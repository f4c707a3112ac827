use Rattle.std.proofs.Common.{length}
use Rattle.policy_model.proofs.ranges.+are_distinct_numbers.Given as goal

abbrev pub decreases-are_distinct_numbers : goal.decreases-are_distinct_numbers
decreases-are_distinct_numbers l = length l.numbers.now
