-- What a run by quiet posts that told it to the end came to.
use Rattle.std.proofs.Common.{◌≡◌, ℕ, ◌<◌, ◌≤◌, Bool, true, false, not, ◌&&◌, ◌||◌, ◌==◌, ◌⊎◌, inl, inr, List, [], ◌∷◌, ◌++◌, length, map, Option, Some, None, refl, sym, ap, subst, ◌∙◌, arith, zero, suc}
use Rattle.std.specs.Prelude.{All, IfSome, IsSome, slice_get, slice_index_or}
use Rattle.std.specs.List.{list_all, list_any}
use Rattle.std.proofs.lemmas.List.{length-map}
use Rattle.std.proofs.lemmas.Option.{slice_get-get_or, slice_get_cases, slice_get_within}
use Rattle.monitor_run.specs.Headline.{IsFaultless, RunPromises, lost_by, openings_by}
use Rattle.monitor_run.specs.Posts.{EachPost, seen}
use Rattle.monitor_run.proofs.Seen.{each_seen, seen_stands}
use Rattle.monitor_run.specs.Ran.{PlansStay}
use Rattle.outside.specs.declared.act.Act.{Act}
use Rattle.outside.specs.Scene.{IsFresh, IsUnplayed, Scene}
use Rattle.outside.specs.Told.{Goes, Rose}
use Rattle.outside.proofs.Told.{Rose-some}
use Rattle.policy_model.specs.declared.event.Event.{Event}
use Rattle.policy_model.specs.Asks.{is_lost}
use Rattle.policy_model.specs.Journal.{has_lost}
use Rattle.policy_model.specs.Settings.{Settings}
use Rattle.outside_memory.specs.declared.quiet_post.QuietPost.{QuietPost}
use Rattle.outside_memory.specs.QuietPost.{faults_of, scene_of}
use Rattle.service_model.specs.Service.{Service}
use Rattle.service_model.specs.Sittings.{AreSittingsOf, Sitting}
use Rattle.service_model.specs.Stories.{ArePlanned, IsStory, LastAccept, is_stop}
use Rattle.drill_plan.specs.Passwords.{session_count}
use Rattle.drill_plan.specs.Plan.{drill_plan}
use Rattle.drill_plan.specs.Played.{IsPlayed}
use Rattle.drill_plan.proofs.Whole.{is_drill}
use Rattle.drill_mode.specs.Drilled.{IsDrilled}
use Rattle.drill_mode.specs.Posts.{AreNewPosts, HasPlayed, IsNewPost, tells_whole}
use Rattle.drill_mode.specs.Services.{IsDrillService}

-- a test of each element, at a place
and_left : (a b : Bool) → (a && b) ≡ true → a ≡ true
and_left true b h = refl
and_left false b h = absurd cc

and_right : (a b : Bool) → (a && b) ≡ true → b ≡ true
and_right true b h = h
and_right false b h = absurd cc

passes_at : {X : Type 0} (test : X → Bool) (xs : List X) (k : ℕ) (x : X) → list_all test xs ≡ true → slice_get xs k ≡ Some x → test x ≡ true
passes_at test [] k x all is = absurd cc
passes_at test (y ∷ ys) zero x all is =
    let same : y ≡ x = cc in
    subst (λ z. test z ≡ true) same (and_left (test y) (list_all test ys) all)
passes_at test (y ∷ ys) (suc k) x all is = passes_at test ys k x (and_right (test y) (list_all test ys) all) is

-- there is an element at each place within a list
stands_at : {X : Type 0} (xs : List X) (k : ℕ) → k < length xs → (x : X) × (slice_get xs k ≡ Some x)
stands_at [] k lt = absurd (omega (arith, lt))
stands_at (y ∷ ys) zero lt = (y, refl)
stands_at (y ∷ ys) (suc k) lt = stands_at ys k (omega (arith, lt))

-- where no decision was lost, none of a worker was
none_lost : (journal : List Event) (worker : ℕ) → has_lost journal ≡ false → lost_by journal worker ≡ false
none_lost [] worker none = refl
none_lost (e ∷ events) worker none = go (e.worker == worker) (is_lost e.decision) (has_lost events) none (none_lost events worker) where
  go : (own lost later : Bool) → (lost || later) ≡ false → (later ≡ false → lost_by events worker ≡ false) → ((own && lost) || lost_by events worker) ≡ false
  go true true later none rest = absurd cc
  go false true later none rest = absurd cc
  go true false later none rest = rest none
  go false false later none rest = rest none

not_true : (b : Bool) → not b ≡ true → b ≡ false
not_true true h = absurd cc
not_true false h = refl

-- what a post that tells shows of its acts
pub told_whole : (scene : Option Scene) (acts : List Act) (stops : Bool) → IsSome scene → IfSome scene (λ s. acts ≡ s.acts) → stops ≡ list_any is_stop acts → not stops ≡ tells_whole scene
told_whole None acts stops some told is = absurd cc
told_whole (Some scene) acts stops some told is = ap not (is ∙ ap (list_any is_stop) told)

-- an element of a list with one more at its end is one of the list, or that one
front : {X : Type 0} (xs : List X) (y : X) (k : ℕ) → k < length xs → slice_get (xs ++ y ∷ []) k ≡ slice_get xs k
front [] y k lt = absurd (omega (arith, lt))
front (x ∷ xs) y zero lt = refl
front (x ∷ xs) y (suc k) lt = front xs y k (omega (arith, lt))

behind : {X : Type 0} (xs : List X) (y z : X) (k : ℕ) → length xs ≤ k → slice_get (xs ++ y ∷ []) k ≡ Some z → (k ≡ length xs) × (y ≡ z)
behind [] y z zero le is = (refl, cc)
behind [] y z (suc k) le is = absurd cc
behind (x ∷ xs) y z zero le is = absurd (omega (arith, le))
behind (x ∷ xs) y z (suc k) le is = let later = behind xs y z k (omega (arith, le)) is in (ap suc later.0, later.1)

-- posts that are their workers', and the next worker's
pub new_more : (n worker : ℕ) (posts : List QuietPost) (post : QuietPost) → length posts ≡ worker → AreNewPosts n posts → IsNewPost n worker post → AreNewPosts n (posts ++ post ∷ [])
new_more n worker posts post len each next k other is = at (slice_get_cases posts k).1 where
  at : ((x : QuietPost) × (k < length posts) × (slice_get posts k ≡ Some x) × (slice_index_or posts k x ≡ x)) ⊎ ((length posts ≤ k) × (slice_get posts k ≡ None)) → IsNewPost n k other
  at (inl found) = each k other (sym (front posts post k found.1) ∙ is)
  at (inr past) =
      let last = behind posts post other k past.0 is in
      subst (IsNewPost n k) last.1 (subst (λ j. IsNewPost n j post) (sym (last.0 ∙ len)) next)

-- posts to whom nothing happened are fresh
pub new_fresh : (n : ℕ) (posts : List QuietPost) → AreNewPosts n posts → All (IsFresh scene_of faults_of) posts
new_fresh n posts new k d lt =
    let stands = slice_get-get_or posts k d lt in
    let post = slice_index_or posts k d in
    record {
      unplayed = subst (λ s. IfSome s IsUnplayed) (sym (new k post stands)) (record { acts = refl; talks = refl; unread = refl });
      faultless = record { accept = refl; keeper = refl; link = refl; conn = refl; vault = refl };
    }

module _ (n : ℕ) (service : Service) (before after : List QuietPost) (is : IsDrillService n service) (count : length before ≡ 4) (new : AreNewPosts n before) (stay : PlansStay scene_of before after) (whole : list_all (λ post. tells_whole (scene_of post)) after ≡ true) (len : length after ≡ service.setup.workers) where
  four : service.setup.workers ≡ 4
  four = ap (λ (s : Settings). s.workers) is.setup.plain

  played : (worker : ℕ) (post : QuietPost) → slice_get after worker ≡ Some post → HasPlayed n worker post
  played worker post stands =
      let within : worker < length before = omega (arith, slice_get_within after worker post stands, len, four, count) in
      let old = stands_at before worker within in
      go (scene_of post) refl (passes_at (λ p. tells_whole (scene_of p)) after worker post whole stands) (subst (λ s. Goes (λ (b a : Scene). a.plan ≡ b.plan) s (scene_of post)) (new worker old.0 old.1) (stay.each worker old.0 post old.1 stands)) where
        go : (scene : Option Scene) → scene_of post ≡ scene → tells_whole scene ≡ true → Goes (λ (b a : Scene). a.plan ≡ b.plan) (Some (record { acts = []; talks = []; unread = []; plan = drill_plan n worker })) (scene_of post) → HasPlayed n worker post
        go None told tells plan = absurd cc
        go (Some scene) told tells plan = record {
          scene = scene;
          told = told;
          plan = subst (Goes (λ (b a : Scene). a.plan ≡ b.plan) (Some (record { acts = []; talks = []; unread = []; plan = drill_plan n worker }))) told plan;
          enough = not_true (list_any is_stop scene.acts) tells;
        }

-- the journal of a drill whose posts told it to the end
whole_drill : (n : ℕ) (service : Service) (failed : Bool) (log : List ℕ) (journal : List Event) (before after : List QuietPost) → IsDrillService n service → length before ≡ 4 → AreNewPosts n before → PlansStay scene_of before after → list_all (λ post. tells_whole (scene_of post)) after ≡ true → RunPromises service failed journal (map (seen scene_of faults_of) after) (record { bytes = Some []; lengths = None }) (record { bytes = Some log; lengths = None }) 0 0 → IsDrilled n journal
whole_drill n service failed log journal before after is count new stay whole promises = record {
  setup = service.setup;
  setup_is = is.setup;
  legal = promises.legal;
  drill = is_drill n service journal is.setup promises.legal.legal promises.legal.workers kept (promises.unfaulted faultless kept) by_plan;
  kept = kept;
} where
  one_each : length after ≡ service.setup.workers
  one_each = sym (length-map after (seen scene_of faults_of)) ∙ promises.one_each

  each : (worker : ℕ) (post : QuietPost) → slice_get after worker ≡ Some post → HasPlayed n worker post
  each = played n service before after is count new stay whole one_each

  kept : has_lost journal ≡ false
  kept = go (has_lost journal) promises.lost where
    go : (lost : Bool) → (lost ≡ true → Rose 0 0) → lost ≡ false
    go true rose = absurd (omega (arith, Rose-some 0 0 (rose refl)))
    go false rose = refl

  found : (worker : ℕ) → worker < 4 → (post : QuietPost) × (slice_get after worker ≡ Some post)
  found worker below =
      let within : worker < length after = omega (arith, below, one_each, four n service before after is count new stay whole one_each) in
      stands_at after worker within

  openings : (worker : ℕ) → worker < 4 → openings_by journal worker ≡ session_count n
  openings worker below =
      let post = found worker below in
      let has = each worker post.0 post.1 in
      let told : IfSome (Some has.scene) (λ s. list_any is_stop s.acts ≡ false → lost_by journal worker ≡ false → openings_by journal worker ≡ service.setup.connections) = subst (λ s. IfSome s (λ s. list_any is_stop s.acts ≡ false → lost_by journal worker ≡ false → openings_by journal worker ≡ service.setup.connections)) has.told (promises.quota.quota worker (seen scene_of faults_of post.0) (seen_stands scene_of faults_of after worker post.0 post.1)) in
      told has.enough (none_lost journal worker kept) ∙ ap (λ (s : Settings). s.connections) is.setup.plain

  faultless : EachPost (map (seen scene_of faults_of) after) (λ worker post. IsFaultless post)
  faultless = each_seen scene_of faults_of after (λ worker post. IsFaultless post) (λ worker post stands. record { no_accept_fault = refl; no_keeper_fault = refl; no_link_fault = refl })

  -- a worker's sessions went by its plan
  by_plan : (worker : ℕ) → worker < 4 → IsPlayed n service journal worker
  by_plan worker below =
      let post = found worker below in
      let has = each worker post.0 post.1 in
      let told : IfSome (Some has.scene) (λ s. (sittings : List Sitting) × (last : LastAccept) × AreSittingsOf service journal worker sittings × IsStory sittings last s) = subst (λ s. IfSome s (λ s. (sittings : List Sitting) × (last : LastAccept) × AreSittingsOf service journal worker sittings × IsStory sittings last s)) has.told (promises.conversations.held worker (seen scene_of faults_of post.0) (seen_stands scene_of faults_of after worker post.0 post.1)) in
      record {
        sittings = told.0;
        served = told.2;
        planned = subst (λ plan. ArePlanned plan 0 told.0) has.plan told.3.planned;
        opened = openings worker below;
      }

-- the same where the log is told
pub drilled : (n : ℕ) (service : Service) (failed : Bool) (log : Option (List ℕ)) (journal : List Event) (before after : List QuietPost) → IsDrillService n service → length before ≡ 4 → AreNewPosts n before → PlansStay scene_of before after → list_all (λ post. tells_whole (scene_of post)) after ≡ true → IsSome log → RunPromises service failed journal (map (seen scene_of faults_of) after) (record { bytes = Some []; lengths = None }) (record { bytes = log; lengths = None }) 0 0 → IsDrilled n journal
drilled n service failed None journal before after is count new stay whole some promises = absurd cc
drilled n service failed (Some log) journal before after is count new stay whole some promises = whole_drill n service failed log journal before after is count new stay whole promises
