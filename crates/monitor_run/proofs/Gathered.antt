-- Workers made of their posts, passes and memory, in the reverse of their order, and what all of them did.
use Rattle.std.proofs.Common.{◌≡◌, ℕ, ◌-◌, ◌<◌, ◌≤◌, Bool, true, false, ◌||◌, List, [], ◌∷◌, ◌++◌, length, map, reverse, take, drop, Option, Some, refl, sym, ap, subst, ◌∙◌, arith, append_assoc, zero, suc, cond, eqb, eqb→eq, T}
use Rattle.std.proofs.Math.Seq.{take-append_seam}
use Rattle.std.specs.Prelude.{IfSome, slice_get, slice_index_or}
use Rattle.std.specs.List.{All, Any, AllByRecursion, list_any}
use Rattle.std.proofs.lemmas.List.{get_or_default, get_or-map, get_or-reverse, length-map, length-reverse, map-append, reverse-append}
use Rattle.std.proofs.lemmas.List.Folds.{list_any-append}
use Rattle.std.proofs.lemmas.Option.{get_or_from_slice_get, slice_get-get_or, slice_get_within}
use Rattle.monitor_book.specs.declared.opened.Opened.{Opened}
use Rattle.outside.specs.declared.faults.Faults.{Faults}
use Rattle.outside.specs.Faults.{AreCounts}
use Rattle.outside.specs.Scene.{IsFresh, IsUnplayed, Scene}
use Rattle.policy_model.specs.declared.event.Event.{Event}
use Rattle.policy_model.specs.Runs.{IsOfWorker, IsRun}
use Rattle.policy_model.specs.Settings.{Settings, quota_of}
use Rattle.service_model.specs.Places.{worker_places}
use Rattle.service_model.specs.Service.{Service}
use Rattle.session_loop.specs.declared.worker.WorkerEnd.{WorkerEnd}
use Rattle.session_loop.specs.Stories.{HasStory, is_accept_fault, last_of}
use Rattle.session_turns.specs.Passes.{BookPass, IsHeldBy, IsPassAt, OpenedBy, OwnsAll}
use Rattle.session_turns.proofs.Passes.{all_back}
use Rattle.session_turns.proofs.Places.{own, places_by_events}
use Rattle.turn_cell.specs.Facts.{AreAllPasses, AreNewPasses, CellFacts, first_pass}
use Rattle.monitor_run.specs.Ran.{PlansStay, Ran, RunEnded, WorkerRan}
use Rattle.monitor_run.specs.Workers.{HasServed, IsReady}
use Rattle.monitor_run.proofs.Workers.{PlanStays, fault_end, is_ready, no_fault_end, plan_stays, worker_ran}

-- ---- the lists

-- a list whose last element moves to the front of what was taken
pub moved : {W X : Type 0} (f : W → X) (all left : List X) (workers : List W) (w : W) → (left ++ f w ∷ []) ++ reverse (map f workers) ≡ all → left ++ reverse (map f (workers ++ w ∷ [])) ≡ all
moved f all left workers w is =
    ap (λ xs. left ++ reverse xs) (map-append f workers (w ∷ [])) ∙ ap (λ xs. left ++ xs) (reverse-append (map f workers) (f w ∷ [])) ∙ sym (append_assoc left (f w ∷ []) (reverse (map f workers))) ∙ is

-- and back
pub moved_back : {W X : Type 0} (f : W → X) (before : List X) (workers : List W) (w : W) → (before ++ f w ∷ []) ++ reverse (map f workers) ≡ before ++ reverse (map f (workers ++ w ∷ []))
moved_back f before workers w = sym (moved f ((before ++ f w ∷ []) ++ reverse (map f workers)) before workers w refl)

-- a test of the last worker moves to what was tested
pub test_moved : {W : Type 0} (test : W → Bool) (workers : List W) (w : W) (failed : Bool) → ((failed || test w) || list_any test workers) ≡ (failed || list_any test (workers ++ w ∷ []))
test_moved test workers w failed = go failed (test w) (list_any test workers) ∙ ap (λ b. failed || b) (sym (list_any-append test workers (w ∷ []))) where
  go : (a b c : Bool) → ((a || b) || c) ≡ (a || (c || (b || false)))
  go true b c = refl
  go false true true = refl
  go false true false = refl
  go false false true = refl
  go false false false = refl

-- the reverse of what all workers have at a place
pub reversed_at : {W X : Type 0} (f : W → X) (workers : List W) (k : ℕ) (w : W) (x : X) → k < length workers → slice_index_or (reverse (map f workers)) k x ≡ f (slice_index_or workers (length workers - 1 - k) w)
reversed_at f workers k w x lt =
    let len : length (map f workers) ≡ length workers = length-map workers f in
    let lt' : k < length (map f workers) = omega (arith, lt, len) in
    get_or-reverse (map f workers) k x lt' ∙ ap (λ n. slice_index_or (map f workers) (n - 1 - k) x) len ∙ get_or-map f workers (length workers - 1 - k) w x (omega (arith, lt))

-- a test of some worker, by its place
pub any_at : {W : Type 0} (test : W → Bool) (workers : List W) → list_any test workers ≡ true → (k : ℕ) × (w : W) × (k < length workers) × (slice_index_or workers k w ≡ w) × (test w ≡ true)
any_at test [] h = absurd cc
any_at {W} test (w ∷ ws) h = go (test w) refl h (any_at test ws) where
  go : (b : Bool) → test w ≡ b → (b || list_any test ws) ≡ true → (list_any test ws ≡ true → (k : ℕ) × (x : W) × (k < length ws) × (slice_index_or ws k x ≡ x) × (test x ≡ true)) → (k : ℕ) × (x : W) × (k < length (w ∷ ws)) × (slice_index_or (w ∷ ws) k x ≡ x) × (test x ≡ true)
  go true is some later = (zero, w, omega arith, refl, is)
  go false is some later =
      let at = later some in
      (suc at.0, at.1, omega (arith, at.2), at.3, at.4)

pub none_at : {W : Type 0} (test : W → Bool) (workers : List W) (k : ℕ) (d : W) → list_any test workers ≡ false → k < length workers → test (slice_index_or workers k d) ≡ false
none_at test [] k d h lt = absurd (omega (arith, lt))
none_at test (w ∷ ws) zero d h lt = go (test w) h where
  go : (b : Bool) → (b || list_any test ws) ≡ false → b ≡ false
  go true none = absurd cc
  go false none = refl
none_at test (w ∷ ws) (suc k) d h lt = none_at test ws k d (go (test w) h) (omega (arith, lt)) where
  go : (b : Bool) → (b || list_any test ws) ≡ false → list_any test ws ≡ false
  go true none = absurd cc
  go false none = none

-- the element at a place of a list
abbrev pub element : {X : Type 0} (xs : List X) (k : ℕ) → k < length xs → X
element [] k lt = absurd (omega (arith, lt))
element (x ∷ xs) zero lt = x
element (x ∷ xs) (suc k) lt = element xs k (omega (arith, lt))

-- ---- one worker

-- what one worker did, by the whole journal
worker_did : (service : Service) (place : CellFacts (Option Opened)) (journal : List Event) (worker : ℕ) (end : WorkerEnd) (old new : BookPass) (before after : Option Scene) (faults_old faults_new : Faults) → HasServed service place old new end before after faults_old faults_new → old ≡ first_pass place worker → IfSome before IsUnplayed → AreCounts 0 0 0 0 0 faults_old → IsHeldBy journal new → WorkerRan service (last_of end) (worker_places journal worker) after faults_new
worker_did service place journal worker end old new before after faults_old faults_new served first unplayed faultless held =
    let number : new.number ≡ worker = served.number_is ∙ ap (λ (p : BookPass). p.number) first in
    let story = subst (λ (p : BookPass). HasStory service p.number end p.seen new.seen before after faults_old faults_new) first served.story in
    let ran = worker_ran service worker end new.seen before after faults_old faults_new story unplayed faultless.link faultless.keeper served.failed in
    let places : worker_places journal worker ≡ worker_places new.seen worker = subst (λ (n : ℕ). worker_places journal n ≡ worker_places new.seen n) number held.1 in
    subst (λ ps. WorkerRan service (last_of end) ps after faults_new) (sym places) ran

-- a worker that the setup doesn't have has no events
own_none : (setup : Settings) (worker : ℕ) (journal : List Event) → setup.workers ≤ worker → AllByRecursion (IsOfWorker setup) journal → own worker journal ≡ []
own_none setup worker [] le all = refl
own_none setup worker (e ∷ es) le all = go (eqb e.worker worker) refl (own_none setup worker es le all.1) where
  go : (b : Bool) → eqb e.worker worker ≡ b → own worker es ≡ [] → cond b (e ∷ own worker es) (own worker es) ≡ []
  go true is rest = absurd (let same : e.worker ≡ worker = eqb→eq e.worker worker (subst T (sym is) tt) in let below = all.0.below in omega (arith, same, below, le))
  go false is rest = rest

-- ---- before they serve

-- the whole vector was lent, so it holds what was written
pub written_whole : {X : Type 0} (xs zs : List X) (n : ℕ) → n ≡ length xs → take n (xs ++ zs) ≡ xs
written_whole xs zs n e = subst (λ k. take k (xs ++ zs) ≡ xs) (sym e) (take-append_seam xs zs)

-- what holds of all that the workers have, in the reverse of their order, holds of each
pub of_reverse : {W X : Type 0} (f : W → X) (P : X → Type 0) (workers : List W) → All P (reverse (map f workers)) → (k : ℕ) (d : W) → k < length workers → P (f (slice_index_or workers k d))
of_reverse f P workers all k d lt =
    let j : ℕ = length workers - 1 - k in
    let within : j < length workers = omega (arith, lt) in
    let back : length workers - 1 - j ≡ k = omega (arith, lt) in
    let long : length (reverse (map f workers)) ≡ length workers = length-reverse (map f workers) ∙ length-map workers f in
    subst P (reversed_at f workers j d (f d) within ∙ ap (λ n. f (slice_index_or workers n d)) back) (all j (f d) (omega (arith, within, long)))

-- the pass of each worker is one that has seen nothing
pub first_at : {W : Type 0} (place : CellFacts (Option Opened)) (pass : W → BookPass) (workers : List W) → AreNewPasses place (reverse (map pass workers)) → (k : ℕ) (d : W) → k < length workers → pass (slice_index_or workers k d) ≡ first_pass place (length workers - 1 - k)
first_at place pass workers new k d lt =
    let j : ℕ = length workers - 1 - k in
    let within : j < length workers = omega (arith, lt) in
    let back : length workers - 1 - j ≡ k = omega (arith, lt) in
    let long : length (reverse (map pass workers)) ≡ length workers = length-reverse (map pass workers) ∙ length-map workers pass in
    sym (reversed_at pass workers j d (pass d) within ∙ ap (λ n. pass (slice_index_or workers n d)) back) ∙ new.1 j (pass d) (omega (arith, within, long))

-- each worker is ready
pub ready_at : {W P : Type 0} (setup : Settings) (place : CellFacts (Option Opened)) (scene : P → Option Scene) (faults : P → Faults) (post : W → P) (pass : W → BookPass) (workers : List W) → AreNewPasses place (reverse (map pass workers)) → All (IsFresh scene faults) (reverse (map post workers)) → OpenedBy setup place.terms → place.quota ≡ quota_of setup → place.passes ≡ setup.workers → (k : ℕ) (d : W) → k < length workers → IsReady setup place (pass (slice_index_or workers k d)) (scene (post (slice_index_or workers k d))) (faults (post (slice_index_or workers k d)))
ready_at setup place scene faults post pass workers new fresh opened quota count k d lt =
    let w = slice_index_or workers k d in
    let is : IsFresh scene faults (post w) = of_reverse post (IsFresh scene faults) workers fresh k d lt in
    let long : length (reverse (map pass workers)) ≡ length workers = length-reverse (map pass workers) ∙ length-map workers pass in
    is_ready setup place (pass w) (scene (post w)) (faults (post w)) (length workers - 1 - k) opened quota (omega (arith, lt, new.0, long, count)) (first_at place pass workers new k d lt) is.unplayed is.faultless

pub ready_lent : {W P : Type 0} (service : Service) (here : W → Service) (place : CellFacts (Option Opened)) (scene : P → Option Scene) (faults : P → Faults) (post : W → P) (pass : W → BookPass) (workers lent : List W) → lent ≡ workers → ((k : ℕ) (d : W) → k < length workers → here (slice_index_or workers k d) ≡ service) → AreNewPasses place (reverse (map pass workers)) → All (IsFresh scene faults) (reverse (map post workers)) → OpenedBy service.setup place.terms → place.quota ≡ quota_of service.setup → place.passes ≡ service.setup.workers
    → (k : ℕ) (d : W) → k < length lent → IsReady (here (slice_index_or lent k d)).setup place (pass (slice_index_or lent k d)) (scene (post (slice_index_or lent k d))) (faults (post (slice_index_or lent k d)))
ready_lent service here place scene faults post pass workers lent same heres new fresh opened quota count k d =
    subst (λ ws. k < length ws → IsReady (here (slice_index_or ws k d)).setup place (pass (slice_index_or ws k d)) (scene (post (slice_index_or ws k d))) (faults (post (slice_index_or ws k d)))) (sym same)
    (λ lt. let w = slice_index_or workers k d in subst (λ (s : Service). IsReady s.setup place (pass w) (scene (post w)) (faults (post w))) (sym (heres k d lt)) (ready_at service.setup place scene faults post pass workers new fresh opened quota count k d lt))

pub served_lent : {W P : Type 0} (service : Service) (here : W → Service) (place : CellFacts (Option Opened)) (scene : P → Option Scene) (faults : P → Faults) (post : W → P) (pass : W → BookPass) (end : W → WorkerEnd) (workers lent new : List W) → lent ≡ workers → ((k : ℕ) (d : W) → k < length workers → here (slice_index_or workers k d) ≡ service)
    → ((k : ℕ) (d : W) → k < length lent → let a = slice_index_or lent k d in let b = slice_index_or new k d in HasServed (here a) place (pass a) (pass b) (end b) (scene (post a)) (scene (post b)) (faults (post a)) (faults (post b)))
    → (k : ℕ) (d : W) → k < length workers → let a = slice_index_or workers k d in let b = slice_index_or new k d in HasServed service place (pass a) (pass b) (end b) (scene (post a)) (scene (post b)) (faults (post a)) (faults (post b))
served_lent service here place scene faults post pass end workers lent new same heres served k d lt =
    let b = slice_index_or new k d in
    let did = subst (λ ws. k < length ws → HasServed (here (slice_index_or ws k d)) place (pass (slice_index_or ws k d)) (pass b) (end b) (scene (post (slice_index_or ws k d))) (scene (post b)) (faults (post (slice_index_or ws k d))) (faults (post b))) same (served k d) lt in
    let a = slice_index_or workers k d in
    subst (λ s. HasServed s place (pass a) (pass b) (end b) (scene (post a)) (scene (post b)) (faults (post a)) (faults (post b))) (heres k d lt) did

-- ---- all workers

-- what is known of a run whose workers have served: their lists before and after, in the reverse of the posts' order
pub record Served {W P : Type 0} (service : Service) (place : CellFacts (Option Opened)) (scene : P → Option Scene) (faults : P → Faults) (post : W → P) (pass : W → BookPass) (end : W → WorkerEnd) (old new : List W) : Type 0 where
  pub passes_new : AreNewPasses place (reverse (map pass old))
  pub fresh : All (IsFresh scene faults) (reverse (map post old))
  pub same : length new ≡ length old
  pub each : (k : ℕ) (d : W) → k < length old → let a = slice_index_or old k d in let b = slice_index_or new k d in HasServed service place (pass a) (pass b) (end b) (scene (post a)) (scene (post b)) (faults (post a)) (faults (post b))

-- what is known of them, from what the calls say of the list that was lent
pub served_all : {W P : Type 0} (service : Service) (here : W → Service) (place : CellFacts (Option Opened)) (scene : P → Option Scene) (faults : P → Faults) (post : W → P) (pass : W → BookPass) (end : W → WorkerEnd) (old lent new : List W) → lent ≡ old → length new ≡ length lent → AreNewPasses place (reverse (map pass old)) → All (IsFresh scene faults) (reverse (map post old)) → ((k : ℕ) (d : W) → k < length old → here (slice_index_or old k d) ≡ service)
    → ((k : ℕ) (d : W) → k < length lent → let a = slice_index_or lent k d in let b = slice_index_or new k d in HasServed (here a) place (pass a) (pass b) (end b) (scene (post a)) (scene (post b)) (faults (post a)) (faults (post b)))
    → Served service place scene faults post pass end old new
served_all service here place scene faults post pass end old lent new lent_is len passes_new fresh heres served = record {
  passes_new = passes_new;
  fresh = fresh;
  same = len ∙ ap length lent_is;
  each = served_lent service here place scene faults post pass end old lent new lent_is heres served;
}

-- the passes, or the posts, that were put back
pub put_back : {W X : Type 0} (f : W → X) (before after : List X) (old new : List W) (count : ℕ) → before ≡ [] → count ≡ length new → after ≡ before ++ reverse (map f (take count (new ++ drop (length new) old))) → after ≡ reverse (map f new)
put_back f before after old new count none whole is = is ∙ ap (λ xs. xs ++ reverse (map f (take count (new ++ drop (length new) old)))) none ∙ ap (λ ws. reverse (map f ws)) (written_whole new (drop (length new) old) count whole)

module _ {W P : Type 0} (service : Service) (place : CellFacts (Option Opened)) (scene : P → Option Scene) (faults : P → Faults) (post : W → P) (pass : W → BookPass) (end : W → WorkerEnd) (old new : List W) (served : Served service place scene faults post pass end old new) where
  -- the length of what was taken apart
  abbrev count : ℕ
  count = length old

  -- what the worker of a number was, and what it became
  record Pair (worker : ℕ) : Type 0 where
    pub a : W
    pub b : W
    pub did : HasServed service place (pass a) (pass b) (end b) (scene (post a)) (scene (post b)) (faults (post a)) (faults (post b))
    pub first : pass a ≡ first_pass place worker
    pub fresh : IsFresh scene faults (post a)
    pub post_was : (d : P) → slice_index_or (reverse (map post old)) worker d ≡ post a
    pub post_at : (d : P) → slice_index_or (reverse (map post new)) worker d ≡ post b
    pub pass_at : (d : BookPass) → slice_index_or (reverse (map pass new)) worker d ≡ pass b
    pub place_of : ℕ
    pub place_is : place_of ≡ length old - 1 - worker
    pub within : place_of < length new
    pub stands : slice_index_or new place_of b ≡ b

  pair : (worker : ℕ) → worker < length old → Pair worker
  pair worker lt =
      let j : ℕ = length old - 1 - worker in
      let j_old : j < length old = omega (arith, lt) in
      let j_new : j < length new = omega (arith, j_old, served.same) in
      let d : W = element old j j_old in
      let a : W = slice_index_or old j d in
      let b : W = slice_index_or new j d in
      let posts_old : length (reverse (map post old)) ≡ length old = length-reverse (map post old) ∙ length-map old post in
      let passes_old : length (reverse (map pass old)) ≡ length old = length-reverse (map pass old) ∙ length-map old pass in
      let lt_new : worker < length new = omega (arith, lt, served.same) in
      let j_is : length new - 1 - worker ≡ j = ap (λ n. n - 1 - worker) served.same in
      record {
        a = a;
        b = b;
        did = served.each j d j_old;
        first = sym (reversed_at pass old worker d (pass d) lt) ∙ served.passes_new.1 worker (pass d) (omega (arith, passes_old, lt));
        fresh = subst (IsFresh scene faults) (reversed_at post old worker d (post d) lt) (served.fresh worker (post d) (omega (arith, posts_old, lt)));
        post_was = λ x. reversed_at post old worker d x lt;
        post_at = λ x. reversed_at post new worker d x lt_new ∙ ap (λ n. post (slice_index_or new n d)) j_is;
        pass_at = λ x. reversed_at pass new worker d x lt_new ∙ ap (λ n. pass (slice_index_or new n d)) j_is;
        place_of = j;
        place_is = refl;
        within = j_new;
        stands = get_or_default new j b d j_new;
      }

  -- the passes are those that the cell needs back
  pub passes_back : AreAllPasses place (reverse (map pass new)) × All OwnsAll (reverse (map pass new))
  passes_back = all_back service.setup place (reverse (map pass new)) are each where
    long : length (reverse (map pass new)) ≡ length old
    long = length-reverse (map pass new) ∙ length-map new pass ∙ served.same

    are : All (IsPassAt service.setup place) (reverse (map pass new))
    are k d lt = let p = pair k (omega (arith, lt, long)) in subst (IsPassAt service.setup place) (sym (p.pass_at d)) p.did.at

    each : (n : ℕ) → n < place.passes → Any (λ p. p.number ≡ n) (reverse (map pass new))
    each n lt =
        let passes_old : length (reverse (map pass old)) ≡ length old = length-reverse (map pass old) ∙ length-map old pass in
        let within : n < length old = omega (arith, lt, served.passes_new.0, passes_old) in
        let p = pair n within in
        (n, pass p.b, omega (arith, within, long), p.pass_at (pass p.b), p.did.number_is ∙ ap (λ (q : BookPass). q.number) p.first)

  -- each post has the plan that it had
  pub plans_stay : PlansStay scene (reverse (map post old)) (reverse (map post new))
  plans_stay = record {
    each = λ worker before after was is.
        let lt : worker < length old = omega (arith, slice_get_within (reverse (map post old)) worker before was, length-reverse (map post old), length-map old post) in
        let pr = pair worker lt in
        let before_is : post pr.a ≡ before = sym (pr.post_was before) ∙ get_or_from_slice_get (reverse (map post old)) worker before before was in
        let after_is : post pr.b ≡ after = sym (pr.post_at after) ∙ get_or_from_slice_get (reverse (map post new)) worker after after is in
        subst (λ p. PlanStays (scene p) (scene after)) before_is (subst (λ p. PlanStays (scene (post pr.a)) (scene p)) after_is (plan_stays pr.did.story.sittings (last_of (end pr.b)) (scene (post pr.a)) (scene (post pr.b)) pr.did.story.are.played));
  }

  -- all workers have run
  pub run_ended : (journal : List Event) → IsRun service.setup journal → place.passes ≡ service.setup.workers → All (IsHeldBy journal) (reverse (map pass new)) → RunEnded service (list_any (λ w. is_accept_fault (end w)) new) journal (reverse (map post new)) scene faults
  run_ended journal run workers held = record {
    each = λ worker p is. let did = at worker p is in (last_of (end did.0.b), (λ none. no_fault_end (end did.0.b) (end_none none did.0)), did.1);
    one = λ some.
        let found = any_at (λ w. is_accept_fault (end w)) new some in
        let k : ℕ = found.0 in
        let within : k < length old = omega (arith, found.2, served.same) in
        let worker : ℕ = length old - 1 - k in
        let lt : worker < length old = omega (arith, within) in
        let pr = pair worker lt in
        let twice : length old - 1 - worker ≡ k = omega (arith, within) in
        let same_place : pr.place_of ≡ k = pr.place_is ∙ twice in
        let b_is : pr.b ≡ found.1 = sym pr.stands ∙ ap (λ n. slice_index_or new n pr.b) same_place ∙ get_or_default new found.0 pr.b found.1 found.2 ∙ found.3 in
        let stands : slice_get (reverse (map post new)) worker ≡ Some (post pr.b) = slice_get-get_or (reverse (map post new)) worker (post pr.b) (omega (arith, lt, posts_len)) ∙ ap Some (pr.post_at (post pr.b)) in
        let fails : is_accept_fault (end pr.b) ≡ true = ap (λ w. is_accept_fault (end w)) b_is ∙ found.4 in
        (worker, post pr.b, stands, subst (λ last. Ran service journal scene faults last worker (post pr.b)) (fault_end (end pr.b) fails) (ran worker lt pr));
    unbegun = λ worker le. places_by_events worker [] journal (own_none service.setup worker journal (omega (arith, le, posts_len, passes_len, served.passes_new.0, workers)) run.workers);
  } where
    posts_len : length (reverse (map post new)) ≡ length old
    posts_len = length-reverse (map post new) ∙ length-map new post ∙ served.same

    passes_len : length (reverse (map pass old)) ≡ length old
    passes_len = length-reverse (map pass old) ∙ length-map old pass

    held_at : (worker : ℕ) → worker < length old → (pr : Pair worker) → IsHeldBy journal (pass pr.b)
    held_at worker lt pr = subst (IsHeldBy journal) (pr.pass_at (pass pr.b)) (held worker (pass pr.b) (omega (arith, lt, length-reverse (map pass new), length-map new pass, served.same)))

    ran : (worker : ℕ) → worker < length old → (pr : Pair worker) → Ran service journal scene faults (last_of (end pr.b)) worker (post pr.b)
    ran worker lt pr = worker_did service place journal worker (end pr.b) (pass pr.a) (pass pr.b) (scene (post pr.a)) (scene (post pr.b)) (faults (post pr.a)) (faults (post pr.b)) pr.did pr.first pr.fresh.unplayed pr.fresh.faultless (held_at worker lt pr)

    end_none : {worker : ℕ} → list_any (λ w. is_accept_fault (end w)) new ≡ false → (pr : Pair worker) → is_accept_fault (end pr.b) ≡ false
    end_none none pr = ap (λ w. is_accept_fault (end w)) (sym pr.stands) ∙ none_at (λ w. is_accept_fault (end w)) new pr.place_of pr.b none pr.within

    at : (worker : ℕ) (p : P) → slice_get (reverse (map post new)) worker ≡ Some p → (pr : Pair worker) × Ran service journal scene faults (last_of (end pr.b)) worker p
    at worker p is =
        let lt : worker < length old = omega (arith, slice_get_within (reverse (map post new)) worker p is, posts_len) in
        let pr = pair worker lt in
        let p_is : post pr.b ≡ p = sym (pr.post_at p) ∙ get_or_from_slice_get (reverse (map post new)) worker p p is in
        (pr, subst (Ran service journal scene faults (last_of (end pr.b)) worker) p_is (ran worker lt pr))
