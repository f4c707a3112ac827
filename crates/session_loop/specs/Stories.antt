-- Inner: the sessions of a worker, one after the other.
use Rattle.std.specs.Prelude.{◌≡◌, ℕ, ◌+◌, ◌-◌, ◌^◌, ◌<◌, ◌≤◌, min, count_by, Bool, true, false, List, length, map}
use Rattle.std.specs.Prelude.{Option}
use Rattle.std.specs.List.{AllByRecursion, flat_map}
use Rattle.outside.specs.declared.faults.Faults.{Faults}
use Rattle.outside.specs.Scene.{Played, Scene, came_count}
use Rattle.outside.specs.Told.{Goes}
use Rattle.policy_model.specs.declared.event.Ask.{Ask}
use Rattle.policy_model.specs.declared.event.Event.{Event}
use Rattle.policy_model.specs.Asks.{is_lost}
use Rattle.policy_model.specs.Journal.{Place}
use Rattle.policy_model.specs.Runs.{IsIdle, IsRun}
use Rattle.policy_model.specs.Settings.{Settings, quota_of}
use Rattle.service_model.specs.Ends.{is_keeper_end, is_link_end}
use Rattle.service_model.specs.Places.{step_places}
use Rattle.service_model.specs.Service.{Service}
use Rattle.service_model.specs.Sittings.{IsSitting, NoneBehindLoss, Sitting, all_steps}
use Rattle.service_model.specs.Stories.{AcceptFailed, ArePlanned, LastAccept, NoAcceptBehindLoss, NoneLeft, Unasked}
use Rattle.service_model.specs.Stories.{parts_of, story_acts, talk_of}
use Rattle.session_asking.specs.Serving.{Steps}
use Rattle.session_turns.specs.Joins.{Rights, Seat}
use Rattle.session_loop.specs.Sessions.{IsOver}
use Rattle.session_loop.specs.declared.worker.WorkerEnd.{WorkerEnd}
use Rattle.session_loop.specs.declared.worker.WorkerEnd.TheVariants as ends

-- a worker may serve: it has no session, and asks are left for all its connections
pub record MayServeAll (setup : Settings) (rights : Rights) (seen : List Event) : Type 0 where
  pub run : IsRun setup seen
  pub idle : IsIdle seen rights.worker
  pub left : quota_of setup ≤ rights.left

-- a count rose at least so many times, or stands at its end
pub record RoseBy (times before after : ℕ) : Type 0 where
  pub by : min (before + times) (2 ^ 64 - 1) ≤ after

-- how many of these places have an ask of a kind
abbrev pub asks_among : (Ask → Bool) → List Place → ℕ
asks_among test places = count_by (λ p. test p.event.ask) places

-- sessions of a worker, one after the other, and its last accept
pub record HasSittings (service : Service) (worker : ℕ) (sittings : List Sitting) (last : LastAccept)
    (old new : List Event) (before after : Option Scene) : Type 0 where
  pub each : AllByRecursion (IsSitting service) sittings
  pub steps : Steps worker (flat_map all_steps sittings) old new
  pub played : Goes (Played (story_acts sittings last) (map talk_of (parts_of sittings))
      (map (λ part. part.unread) (parts_of sittings))) before after
  pub planned : Goes (λ b a. ArePlanned b.plan (came_count b.acts) sittings) before after

-- each end by a fault of a link or of a start raised the count of those
pub record EndsCounted (sittings : List Sitting) (faults_old faults_new : Faults) : Type 0 where
  pub link : RoseBy (asks_among is_link_end (step_places (flat_map all_steps sittings))) faults_old.link faults_new.link
  pub keeper : RoseBy (asks_among is_keeper_end (step_places (flat_map all_steps sittings))) faults_old.keeper
      faults_new.keeper

-- the last accept of a worker that ended so
abbrev pub last_of : WorkerEnd → LastAccept
last_of ends.AllServed = Unasked
last_of ends.NoMore = NoneLeft
last_of ends.AcceptFault = AcceptFailed
last_of ends.LogLost = Unasked

-- all that a worker did before it ended so
pub record HasStory (service : Service) (worker : ℕ) (end : WorkerEnd) (old new : List Event)
    (before after : Option Scene) (faults_old faults_new : Faults) : Type 0 where
  pub sittings : List Sitting
  pub are : HasSittings service worker sittings (last_of end) old new before after
  pub alone : NoneBehindLoss sittings
  pub halted : NoAcceptBehindLoss sittings (last_of end)
  pub all : end ≡ ends.AllServed → length sittings ≡ service.setup.connections
  pub lost : end ≡ ends.LogLost → 1 ≤ count_by (λ p. is_lost p.event.decision)
      (step_places (flat_map all_steps sittings))
  pub counted : EndsCounted sittings faults_old faults_new

-- a worker ended because an accept failed
abbrev pub is_accept_fault : WorkerEnd → Bool
is_accept_fault ends.AcceptFault = true
is_accept_fault _ = false

-- a worker that ended so has no session, is the same, and counted the accept that failed
pub record WorkerHasEnded (end : WorkerEnd) (before after : Seat) (faults : Faults) : Type 0 where
  pub over : IsOver before.setup before.rights.worker after.seen
  pub worker : after.rights.worker ≡ before.rights.worker
  pub accept_fault : end ≡ ends.AcceptFault → 0 < faults.accept
