-- The posts of a run, before and after it.
use Rattle.std.proofs.Common.{◌≡◌, ℕ, zero, suc, ◌<◌, ◌≤◌, ◌⊎◌, inl, inr, List, [], ◌∷◌, ◌++◌, length, get_or}
use Rattle.std.proofs.Common.{Option, Some, None, refl, sym, ap, subst, ◌∙◌, arith, length-append}
use Rattle.std.specs.Prelude.{All, IfSome, slice_get}
use Rattle.std.proofs.lemmas.Option.{slice_get-get_or, slice_get_cases, slice_get_within}
use Rattle.outside_memory.specs.declared.post.MemPost.{MemPost}
use Rattle.outside_memory.specs.MemPost.{faults_of, scene_of}
use Rattle.outside.specs.Scene.{IsFresh, Scene}
use Rattle.outside.specs.Told.{Goes}
use Rattle.monitor_run.specs.Ran.{PlansStay}
use Rattle.welcome_rows.specs.declared.serving.Visit.{Visit}
use Rattle.welcome_rows.specs.Shown.{AreNewPosts, IsNewPost, planned}

-- ---- elements of a list

-- there is an element at each place within a list
stands_at : {X : Type 0} (xs : List X) (k : ℕ) → k < length xs → (x : X) × (slice_get xs k ≡ Some x)
stands_at [] k lt = absurd (omega (arith, lt))
stands_at (y ∷ ys) zero lt = (y, refl)
stands_at (y ∷ ys) (suc k) lt = stands_at ys k (omega (arith, lt))

-- an element of a list with one more at its end is one of the list, or that one
front : {X : Type 0} (xs : List X) (y : X) (k : ℕ) → k < length xs → slice_get (xs ++ y ∷ []) k ≡ slice_get xs k
front [] y k lt = absurd (omega (arith, lt))
front (x ∷ xs) y zero lt = refl
front (x ∷ xs) y (suc k) lt = front xs y k (omega (arith, lt))

behind : {X : Type 0} (xs : List X) (y z : X) (k : ℕ) → length xs ≤ k → slice_get (xs ++ y ∷ []) k ≡ Some z → y ≡ z
behind [] y z zero le is = cc
behind [] y z (suc k) le is = absurd cc
behind (x ∷ xs) y z zero le is = absurd (omega (arith, le))
behind (x ∷ xs) y z (suc k) le is = behind xs y z k (omega (arith, le)) is

-- ---- before the run

pub none_yet : AreNewPosts [] []
none_yet = record { count = refl; each = λ worker visit post at. absurd cc }

pub new_more : (visits : List Visit) (posts : List MemPost) (visit : Visit) (post : MemPost) → AreNewPosts visits posts
    → IsNewPost visit.script post → AreNewPosts (visits ++ visit ∷ []) (posts ++ post ∷ [])
new_more visits posts visit post are new = record {
  count = omega (arith, are.count, length-append visits (visit ∷ []), length-append posts (post ∷ []));
  each = λ worker v p visit_at post_at. at worker v p visit_at post_at (slice_get_cases posts worker).1;
} where
  at : (worker : ℕ) (v : Visit) (p : MemPost) → slice_get (visits ++ visit ∷ []) worker ≡ Some v
      → slice_get (posts ++ post ∷ []) worker ≡ Some p
      → ((x : MemPost) × (worker < length posts) × (slice_get posts worker ≡ Some x) × (get_or posts worker x ≡ x))
      ⊎ ((length posts ≤ worker) × (slice_get posts worker ≡ None)) → IsNewPost v.script p
  at worker v p visit_at post_at (inl found) =
      let within : worker < length visits = omega (arith, found.1, are.count) in
      are.each worker v p (sym (front visits visit worker within) ∙ visit_at)
      (sym (front posts post worker found.1) ∙ post_at)
  at worker v p visit_at post_at (inr past) =
      let beyond : length visits ≤ worker = omega (arith, past.0, are.count) in
      let one = behind visits visit v worker beyond visit_at in
      let other = behind posts post p worker past.0 post_at in
      subst (λ (q : MemPost). IsNewPost v.script q) other (subst (λ (w : Visit). IsNewPost w.script post) one new)

pub all_fresh : (visits : List Visit) (posts : List MemPost) → AreNewPosts visits posts
    → All (IsFresh scene_of faults_of) posts
all_fresh visits posts are k d lt =
    let within : k < length visits = omega (arith, lt, are.count) in
    let visit = stands_at visits k within in
    (are.each k visit.0 (get_or posts k d) visit.1 (slice_get-get_or posts k d lt)).fresh

-- ---- after it

pub plans_kept : (visits : List Visit) (before after : List MemPost) → AreNewPosts visits before
    → PlansStay scene_of before after
    → (worker : ℕ) (visit : Visit) (post : MemPost) → slice_get visits worker ≡ Some visit
    → slice_get after worker ≡ Some post
    → IfSome (scene_of post) (λ s. s.plan ≡ planned visit.script ∷ [])
plans_kept visits before after are stay worker visit post visit_at post_at =
    go (scene_of old.0) (scene_of post) (are.each worker visit old.0 visit_at old.1).scene
    (stay.each worker old.0 post old.1 post_at) where
      within : worker < length before
      within = omega (arith, slice_get_within visits worker visit visit_at, are.count)

      old : (p : MemPost) × (slice_get before worker ≡ Some p)
      old = stands_at before worker within

      go : (first last : Option Scene)
          → first ≡ Some (record { acts = []; talks = []; unread = []; plan = planned visit.script ∷ [] })
          → Goes (λ b a. a.plan ≡ b.plan) first last → IfSome last (λ s. s.plan ≡ planned visit.script ∷ [])
      go first None is goes = tt
      go None (Some scene) is goes = absurd cc
      go (Some new) (Some scene) is goes =
          let same : new ≡ record { acts = []; talks = []; unread = []; plan = planned visit.script ∷ [] } = cc in
          goes ∙ ap (λ (s : Scene). s.plan) same
