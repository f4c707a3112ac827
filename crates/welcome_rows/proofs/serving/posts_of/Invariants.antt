use Rattle.std.proofs.Common.{take}
use Rattle.welcome_rows.specs.Shown.{AreNewPosts}
use Rattle.welcome_rows.proofs.serving.posts_of.Given as goal

abbrev pub invariant-loop-visit : goal.invariant-loop-visit
invariant-loop-visit l = AreNewPosts (take l.visit-index l.visits) l.posts.items
