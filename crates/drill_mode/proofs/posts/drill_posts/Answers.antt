use Rattle.std.proofs.Common.{◌∷◌, [], ap, arith, length, length-append, subst, sym}
use Rattle.drill_mode.specs.Posts.{AreNewPosts}
use Rattle.drill_mode.proofs.DrillLemmas.{new_more}
use Rattle.drill_mode.proofs.posts.drill_posts.Goals as goal

pub loop-worker-preserved : goal.loop-worker-preserved
loop-worker-preserved c =
    let posts = c.loop-worker.posts.items in
    let post = c.in_ok-drill_post.field-0 in
    let items = c.in_ok-push.ensures.items in
    (omega (arith, ap length items, length-append posts (post ∷ []), c.loop-worker.invariant.0), subst (AreNewPosts c.args.n) (sym items) (new_more c.args.n c.loop-worker.worker posts post c.loop-worker.invariant.0 c.loop-worker.invariant.1 c.in_ok-drill_post.ensures))
