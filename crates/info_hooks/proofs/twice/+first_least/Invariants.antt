use Rattle.std.proofs.Common.{length}
use Rattle.info_hooks.proofs.twice.+first_least.Given as goal

abbrev pub decreases-first_least : goal.decreases-first_least
decreases-first_least g l = length l.list.now
