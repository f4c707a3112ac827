-- Believed: the workers' posts, as they are seen.
use Rattle.std.specs.Prelude.{◌≡◌, ℕ, List, Option, Some, IfSome, slice_get}
use Rattle.outside.specs.declared.faults.Faults.{Faults}
use Rattle.outside.specs.Scene.{Scene}

-- a worker's post: what it reports, and its counts of faults
pub record PostNow : Type 0 where
  pub scene : Option Scene
  pub faults : Faults

-- a post, of which this says what it reports and counts
abbrev pub seen : {P : Type 0} → (P → Option Scene) → (P → Faults) → P → PostNow
seen scene faults post = record { scene = scene post; faults = faults post }

-- this holds of every worker and its post
abbrev pub EachPost : List PostNow → (ℕ → PostNow → Type 0) → Type 0
EachPost posts Holds = (worker : ℕ) (post : PostNow) → slice_get posts worker ≡ Some post → Holds worker post

-- this holds of every worker and what its post reports, if it reports
abbrev pub EachScene : List PostNow → (ℕ → Scene → Type 0) → Type 0
EachScene posts Holds = EachPost posts (λ worker post. IfSome post.scene (Holds worker))
