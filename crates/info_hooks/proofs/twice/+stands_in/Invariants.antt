use Rattle.std.proofs.Common.{length}
use Rattle.info_hooks.proofs.twice.+stands_in.Given as goal

abbrev pub decreases-stands_in : goal.decreases-stands_in
decreases-stands_in g l = length l.list.now
