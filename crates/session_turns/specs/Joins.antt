-- Inner: what one ask makes of what a worker has seen.
use Rattle.std.specs.Prelude.{◌≡◌, ◌≢◌, ℕ, ◌+◌, List, [], ◌∷◌, ◌++◌}
use Rattle.policy_model.specs.declared.event.Ask.{Ask}
use Rattle.policy_model.specs.declared.event.Event.{Event}
use Rattle.policy_model.specs.Asks.{exports}
use Rattle.policy_model.specs.Handles.{live_handles_of}
use Rattle.policy_model.specs.Journal.{ask_count, has_event, open_session_of}
use Rattle.policy_model.specs.Legal.{IsNext}
use Rattle.policy_model.specs.Logins.{verified_user}
use Rattle.policy_model.specs.Runs.{IsIdle, IsRun}
use Rattle.policy_model.specs.Settings.{Settings}
use Rattle.policy_model.specs.Verdict.{NamesRule}
use Rattle.service_model.specs.Places.{worker_places}

-- what a worker may do: its number, and how many asks it may still make
pub record Rights : Type 0 where
  pub worker : ℕ
  pub left : ℕ

-- a worker's seat at what all share: the run's setup, what the worker may do, and what it has seen of the journal
pub record Seat : Type 0 where
  pub setup : Settings
  pub rights : Rights
  pub seen : List Event

-- so many asks were made
pub record KeepsRights (asks : ℕ) (old new : Rights) : Type 0 where
  pub worker : new.worker ≡ old.worker
  pub made : new.left + asks ≡ old.left

-- events of others say nothing of a session: how many asks it made,
-- whether it exported, who is logged in, which files are open
pub record SessionStays (session : ℕ) (old new : List Event) : Type 0 where
  pub asks : ask_count new session ≡ ask_count old session
  pub exported : has_event new session exports ≡ has_event old session exports
  pub user : verified_user new session ≡ verified_user old session
  pub files : live_handles_of new session ≡ live_handles_of old session

-- others' events stand after what was seen, and none of the worker's
pub record OthersJoined (setup : Settings) (worker : ℕ) (old before : List Event) : Type 0 where
  pub run : IsRun setup before
  pub places : worker_places before worker ≡ worker_places old worker
  pub opened : open_session_of before worker ≡ open_session_of old worker
  pub stays : open_session_of old worker ≢ 0 → SessionStays (open_session_of old worker) old before
  pub idle : IsIdle old worker → IsIdle before worker

-- the event of a worker's ask joined the journal, which others may have lengthened since
pub record Joins (setup : Settings) (worker : ℕ) (ask : Ask) (old new : List Event) (e : Event) : Type 0 where
  pub before : List Event
  pub grown : new ≡ before ++ e ∷ []
  pub others : OthersJoined setup worker old before
  pub run : IsRun setup new
  pub next : IsNext setup before e
  pub its : e.worker ≡ worker
  pub asks : e.ask ≡ ask
  pub named : NamesRule e.decision
