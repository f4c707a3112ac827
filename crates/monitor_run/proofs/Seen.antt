-- What is promised of posts is promised of them as they are seen.
use Rattle.std.proofs.Common.{◌≡◌, ℕ, List, map, Option, Some, None, refl, sym, ap, subst, ◌∙◌}
use Rattle.std.specs.Prelude.{slice_get, option_map}
use Rattle.std.proofs.lemmas.Option.{slice_get-map}
use Rattle.outside.specs.declared.faults.Faults.{Faults}
use Rattle.outside.specs.Scene.{Scene}
use Rattle.monitor_run.specs.Posts.{EachPost, PostNow, seen}

-- the post at a place, seen
pub seen_stands : {P : Type 0} (scene : P → Option Scene) (faults : P → Faults) (posts : List P) (worker : ℕ) (post : P) → slice_get posts worker ≡ Some post → slice_get (map (seen scene faults) posts) worker ≡ Some (seen scene faults post)
seen_stands scene faults posts worker post is = slice_get-map (seen scene faults) posts worker ∙ ap (option_map (seen scene faults)) is

-- what holds of each post holds of each that is seen
pub each_seen : {P : Type 0} (scene : P → Option Scene) (faults : P → Faults) (posts : List P) (Holds : ℕ → PostNow → Type 0) → ((worker : ℕ) (post : P) → slice_get posts worker ≡ Some post → Holds worker (seen scene faults post)) → EachPost (map (seen scene faults) posts) Holds
each_seen {P} scene faults posts Holds of worker now is = go (slice_get posts worker) refl (sym (slice_get-map (seen scene faults) posts worker) ∙ is) where
  go : (o : Option P) → slice_get posts worker ≡ o → option_map (seen scene faults) o ≡ Some now → Holds worker now
  go None at e = absurd cc
  go (Some post) at e = let same : seen scene faults post ≡ now = cc in subst (Holds worker) same (of worker post at)
