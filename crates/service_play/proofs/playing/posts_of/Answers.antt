use Rattle.std.proofs.Common.{sym, subst, All}
use Rattle.std.proofs.lemmas.List.Elements.{All-push}
use Rattle.outside_memory.specs.MemPost.{faults_of, scene_of}
use Rattle.outside.specs.Scene.{IsFresh}
use Rattle.service_play.proofs.playing.posts_of.Goals as goal

pub loop-preserved : goal.loop-preserved
loop-preserved c = record {
  fresh = subst (All (IsFresh scene_of faults_of)) (sym c.in_ok-push.ensures.items)
      (All-push (IsFresh scene_of faults_of) c.loop.posts.items c.in_ok-post.field-0 c.loop.invariant.fresh c.in_ok-post.ensures);
}
