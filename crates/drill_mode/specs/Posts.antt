-- Inner: the posts of a drill, before and after it.
use Rattle.std.specs.Prelude.{◌≡◌, ℕ, Bool, false, not, List, [], slice_get, Option, Some, None}
use Rattle.std.specs.List.{list_any}
use Rattle.outside.specs.Scene.{Scene}
use Rattle.outside_memory.specs.declared.quiet_post.QuietPost.{QuietPost}
use Rattle.outside_memory.specs.QuietPost.{scene_of}
use Rattle.service_model.specs.Stories.{is_stop}
use Rattle.drill_plan.specs.Plan.{drill_plan}

-- nothing was asked of a post yet, and its children go by the plan of this worker in the drill of n
abbrev pub IsNewPost : ℕ → ℕ → QuietPost → Type 0
IsNewPost n worker post =
    scene_of post ≡ Some (record { acts = []; talks = []; unread = []; plan = drill_plan n worker })

-- each post is that of its worker
abbrev pub AreNewPosts : ℕ → List QuietPost → Type 0
AreNewPosts n posts = (worker : ℕ) (post : QuietPost) → slice_get posts worker ≡ Some post → IsNewPost n worker post

-- a post tells what was asked of it, and a connection came whenever its worker waited for one
abbrev pub tells_whole : Option Scene → Bool
tells_whole None = false
tells_whole (Some scene) = not (list_any is_stop scene.acts)

-- a post that has played by the plan of its worker to the end
pub record HasPlayed (n worker : ℕ) (post : QuietPost) : Type 0 where
  pub scene : Scene
  pub told : scene_of post ≡ Some scene
  pub plan : scene.plan ≡ drill_plan n worker
  pub enough : list_any is_stop scene.acts ≡ false
