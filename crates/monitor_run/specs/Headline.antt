-- Believed: what is promised of a run, in its parts.
use Rattle.std.specs.Prelude.{◌≡◌, ℕ, ◌<◌, ◌≤◌, Bool, true, false, ◌&&◌, ◌==◌, List, [], length, count_by, slice_get}
use Rattle.std.specs.Prelude.{Some, None, IfSome}
use Rattle.std.specs.List.{AllByRecursion, last_or, list_any}
use Rattle.std.specs.Option.{option_map_or}
use Rattle.policy_laws.specs.Consequences.{HasConsequences}
use Rattle.policy_laws.specs.Strangers.{ShowsNoAccounts}
use Rattle.decision_log.specs.Typed.{IsTyped}
use Rattle.monitor_book.specs.declared.opened.Held.{Held}
use Rattle.monitor_book.specs.Lines.{LogMatches, decided_in}
use Rattle.outside.specs.Told.{Rose}
use Rattle.outside.specs.Scene.{CountsAsTold, Scene, is_failed_accept}
use Rattle.policy_model.specs.declared.event.Ask.{Ask}
use Rattle.policy_model.specs.declared.event.Event.{Event}
use Rattle.policy_model.specs.declared.ranges.TheConstants.{EVENTS_LIMIT}
use Rattle.policy_model.specs.Asks.{is_lost, opens}
use Rattle.policy_model.specs.Journal.{has_lost}
use Rattle.policy_model.specs.Legal.{IsLegal}
use Rattle.policy_model.specs.Runs.{IsOfWorker, IsProperEvent}
use Rattle.policy_model.specs.Settings.{Settings}
use Rattle.service_model.specs.Ends.{is_fault_end, is_keeper_end, is_link_end}
use Rattle.service_model.specs.Service.{Service}
use Rattle.service_model.specs.Sittings.{AreAnswered, AreSittingsOf, Sitting}
use Rattle.service_model.specs.Stories.{IsStory, LastAccept, is_stop}
use Rattle.welcome_laws.specs.Files.{UsersAreServed}
use Rattle.welcome_laws.specs.Welcome.{UsersGetIn}
use Rattle.monitor_run.specs.Posts.{EachPost, EachScene, PostNow}

-- ---- the journal is legal

-- each event is the policy's decision on those before it, or lost like all later ones; asks are proper
pub record JournalIsLegal (setup : Settings) (journal : List Event) : Type 0 where
  pub legal : IsLegal setup journal
  pub proper : AllByRecursion IsProperEvent journal
  pub workers : AllByRecursion (IsOfWorker setup) journal
  pub few : length journal ≤ EVENTS_LIMIT

-- each worker's events are whole sessions, one after the other; none follows a lost opening or an end by a loss
pub record SessionsInOrder (service : Service) (journal : List Event) : Type 0 where
  pub in_order : (worker : ℕ) → (sittings : List Sitting) × AreSittingsOf service journal worker sittings

-- ---- the operations and the bytes

-- what a post reports, if it does, is exactly its worker's sessions: operations, bytes, and at most one last accept
pub record ConversationsMatch (service : Service) (journal : List Event) (posts : List PostNow) : Type 0 where
  pub held : EachScene posts (λ worker s. (sittings : List Sitting) × (last : LastAccept)
      × AreSittingsOf service journal worker sittings × IsStory sittings last s)

-- ---- the length of the run

-- how many sessions a worker opened
abbrev pub openings_by : List Event → ℕ → ℕ
openings_by journal worker = count_by (λ e. e.worker == worker && opens e) journal

-- whether a decision of a worker was lost
abbrev pub lost_by : List Event → ℕ → Bool
lost_by journal worker = list_any (λ e. e.worker == worker && is_lost e.decision) journal

-- a worker that no accept stopped and that lost no decision opened all the setup's connections, if its post reports
pub record RunsToQuota (setup : Settings) (journal : List Event) (posts : List PostNow) : Type 0 where
  pub quota : EachScene posts (λ worker s. list_any is_stop s.acts ≡ false → lost_by journal worker ≡ false
      → openings_by journal worker ≡ setup.connections)

-- ---- accepts that failed

-- the last operation of a post was an accept that failed
abbrev pub ends_by_accept_fault : Scene → Bool
ends_by_accept_fault scene = option_map_or is_failed_accept (last_or None scene.acts) false

-- some worker's post counts a failed accept and reports one, if it reports, as its last operation
pub record SomeAcceptFailed (posts : List PostNow) : Type 0 where
  pub worker : ℕ
  pub post : PostNow
  pub stands : slice_get posts worker ≡ Some post
  pub counted : 0 < post.faults.accept
  pub told : IfSome post.scene (λ s. ends_by_accept_fault s ≡ true)

-- ---- the ends by a fault

-- how many of a worker's asks pass a test of ends
abbrev pub ends_by : (Ask → Bool) → List Event → ℕ → ℕ
ends_by test journal worker = count_by (λ e. e.worker == worker && test e.ask) journal

-- a run's numbers: those of what was decided are in their types' ranges, and a post counts what failed, and no less
pub record KeepsNumbers (setup : Settings) (journal : List Event) (posts : List PostNow) : Type 0 where
  pub typed : AllByRecursion IsTyped (decided_in setup journal)
  -- exactly the failed operations that a post reports, if it does
  pub counted : EachPost posts (λ worker post. IfSome post.scene (λ s. CountsAsTold s post.faults))
  -- at most as many of a worker's sessions ended by a failed link or a failed start as its post counts
  pub link : EachPost posts (λ worker post. ends_by is_link_end journal worker ≤ post.faults.link)
  pub keeper : EachPost posts (λ worker post. ends_by is_keeper_end journal worker ≤ post.faults.keeper)

-- ---- completeness

-- a post counts no failed accept, start or link; failures on clients and users' files, which are answered, it may count
pub record IsFaultless (post : PostNow) : Type 0 where
  pub no_accept_fault : post.faults.accept ≡ 0
  pub no_keeper_fault : post.faults.keeper ≡ 0
  pub no_link_fault : post.faults.link ≡ 0

-- a worker's sessions are all its events, match what its post reports, and got every answer
pub record IsServedWhole (service : Service) (journal : List Event) (worker : ℕ) (s : Scene) : Type 0 where
  pub sittings : List Sitting
  pub last : LastAccept
  pub served : AreSittingsOf service journal worker sittings
  pub story : IsStory sittings last s
  pub answered : AllByRecursion (λ sitting. AreAnswered service [] sitting.parts) sittings

-- a worker's sessions were served whole, and users who came to log in were welcomed and served their files
pub record ServesUsers (service : Service) (journal : List Event) (worker : ℕ) (s : Scene) : Type 0 where
  pub whole : IsServedWhole service journal worker s
  pub welcomed : UsersGetIn service journal whole.sittings
  pub files : UsersAreServed service journal whole.sittings

-- ---- all of it

-- all that is promised of a run that has served by a service: what its
-- journal, its posts and its log are, and whether an accept failed
pub record RunPromises (service : Service) (failed : Bool) (journal : List Event) (posts : List PostNow)
    (held_old held_new : Held) (log_old log_new : ℕ) : Type 0 where
  pub legal : JournalIsLegal service.setup journal
  pub sessions : SessionsInOrder service journal
  pub conversations : ConversationsMatch service journal posts
  pub log : LogMatches service.setup journal held_old held_new
  pub consequences : HasConsequences service.setup journal
  pub unseen : ShowsNoAccounts service.setup journal
  pub quota : RunsToQuota service.setup journal posts
  pub numbers : KeepsNumbers service.setup journal posts
  pub one_each : length posts ≡ service.setup.workers
  pub lost : has_lost journal ≡ true → Rose log_old log_new
  pub kept : has_lost journal ≡ false → log_new ≡ log_old
  pub accept_failed : failed ≡ true → SomeAcceptFailed posts
  pub accepted : failed ≡ false → EachScene posts (λ worker s. ends_by_accept_fault s ≡ false)
  pub unfaulted : EachPost posts (λ worker post. IsFaultless post) → has_lost journal ≡ false
      → list_any (λ e. is_fault_end e.ask) journal ≡ false
  pub users : EachPost posts (λ worker post. IsFaultless post) → has_lost journal ≡ false
      → EachScene posts (ServesUsers service journal)
