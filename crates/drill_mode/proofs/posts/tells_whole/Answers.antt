use Rattle.outside_memory.specs.QuietPost.{scene_of}
use Rattle.drill_mode.proofs.DrillLemmas.{told_whole}
use Rattle.drill_mode.proofs.posts.tells_whole.Goals as goal

pub returns-then-tells : goal.returns-then-tells
returns-then-tells c = told_whole (scene_of c.args.post.now) c.acts.result.now c.has_stop.result (c.tells.ensures.scene.0 c.if-tells.true) c.acts.ensures c.has_stop.ensures
