use Rattle.std.proofs.Common.{◌≡◌, length}
use Rattle.drill_mode.specs.Posts.{AreNewPosts}
use Rattle.drill_mode.proofs.posts.drill_posts.Given as goal

abbrev pub invariant-loop-worker : goal.invariant-loop-worker
invariant-loop-worker l = (length l.posts.items ≡ l.worker) × AreNewPosts l.n l.posts.items
