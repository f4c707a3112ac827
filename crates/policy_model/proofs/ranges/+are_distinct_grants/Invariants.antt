use Rattle.std.proofs.Common.{length}
use Rattle.policy_model.proofs.ranges.+are_distinct_grants.Given as goal

abbrev pub decreases-are_distinct_grants : goal.decreases-are_distinct_grants
decreases-are_distinct_grants l = length l.grants.now
