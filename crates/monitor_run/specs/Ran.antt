-- Inner: what the workers of a run did, by the journal and by what their posts tell and count.
use Rattle.std.specs.Prelude.{◌≡◌, ◌≢◌, ℕ, ◌<◌, ◌≤◌, Bool, true, false, List, [], count_by, length, slice_get, Option}
use Rattle.std.specs.Prelude.{Some, IfSome}
use Rattle.std.specs.List.{AllByRecursion, flat_map}
use Rattle.outside.specs.declared.faults.Faults.{Faults}
use Rattle.outside.specs.Scene.{CountsAsTold, Scene}
use Rattle.outside.specs.Told.{Goes}
use Rattle.policy_model.specs.declared.event.Event.{Event}
use Rattle.policy_model.specs.Asks.{is_lost}
use Rattle.policy_model.specs.Journal.{Place}
use Rattle.service_model.specs.Ends.{is_keeper_end, is_link_end}
use Rattle.service_model.specs.Places.{step_places, worker_places}
use Rattle.service_model.specs.Service.{Service}
use Rattle.service_model.specs.Sittings.{IsSitting, NoneBehindLoss, Sitting, all_steps}
use Rattle.service_model.specs.Stories.{AcceptFailed, IsStory, LastAccept, Unasked}
use Rattle.session_loop.specs.Stories.{RoseBy, asks_among}

-- what one worker did, whose events stand at these places
pub record WorkerRan (service : Service) (last : LastAccept) (places : List Place) (scene : Option Scene)
    (faults : Faults) : Type 0 where
  pub sittings : List Sitting
  pub each : AllByRecursion (IsSitting service) sittings
  pub all : places ≡ step_places (flat_map all_steps sittings)
  pub alone : NoneBehindLoss sittings
  pub story : IfSome scene (IsStory sittings last)
  pub quota : last ≡ Unasked → count_by (λ p. is_lost p.event.decision) places ≡ 0 → length sittings
      ≡ service.setup.connections
  pub failed : last ≡ AcceptFailed → 0 < faults.accept
  pub link : RoseBy (asks_among is_link_end places) 0 faults.link
  pub keeper : RoseBy (asks_among is_keeper_end places) 0 faults.keeper

-- what the worker with this number did, and what its post tells and counts
abbrev pub Ran : {P : Type 0} → Service → List Event → (P → Option Scene) → (P → Faults) → LastAccept → ℕ → P → Type 0
Ran service journal scene faults last worker post =
    WorkerRan service last (worker_places journal worker) (scene post) (faults post)

-- all workers have run, one of them to a failed accept or none
pub record RunEnded {P : Type 0} (service : Service) (failed : Bool) (journal : List Event) (posts : List P)
    (scene : P → Option Scene) (faults : P → Faults) : Type 0 where
  pub each : (worker : ℕ) (post : P) → slice_get posts worker ≡ Some post → (last : LastAccept)
      × (failed ≡ false → last ≢ AcceptFailed) × Ran service journal scene faults last worker post
  pub one : failed ≡ true → (worker : ℕ) × (post : P) × (slice_get posts worker ≡ Some post)
      × Ran service journal scene faults AcceptFailed worker post
  pub unbegun : (worker : ℕ) → length posts ≤ worker → worker_places journal worker ≡ []

-- each post that tells has the plan that it had
pub record PlansStay {P : Type 0} (scene : P → Option Scene) (before after : List P) : Type 0 where
  pub each : (worker : ℕ) (old new : P) → slice_get before worker ≡ Some old → slice_get after worker ≡ Some new
      → Goes (λ b a. a.plan ≡ b.plan) (scene old) (scene new)

-- each post, if it tells, counts exactly the failed operations that it tells of
pub record AllCountAsTold {P : Type 0} (scene : P → Option Scene) (faults : P → Faults) (posts : List P) : Type 0 where
  pub each : (worker : ℕ) (post : P) → slice_get posts worker ≡ Some post
      → IfSome (scene post) (λ s. CountsAsTold s (faults post))
