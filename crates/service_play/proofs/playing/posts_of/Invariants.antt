use Rattle.std.proofs.Common.{All}
use Rattle.outside_memory.specs.MemPost.{faults_of, scene_of}
use Rattle.outside.specs.Scene.{IsFresh}
use Rattle.service_play.proofs.playing.posts_of.Given as goal

abbrev pub invariant-loop : goal.invariant-loop
invariant-loop l = record { fresh : All (IsFresh scene_of faults_of) l.posts.items }
