use Rattle.std.proofs.Common.{length}
use Rattle.policy_model.proofs.ranges.+are_distinct_uids.Given as goal

abbrev pub decreases-are_distinct_uids : goal.decreases-are_distinct_uids
decreases-are_distinct_uids l = length l.accounts.now
