-- Believed: what holds of a journal throughout a run.
use Rattle.std.specs.Prelude.{ℕ, ◌≡◌, ◌≢◌, ◌≤◌, ◌<◌, ◌⊎◌, true, List}
use Rattle.std.specs.List.{AllByRecursion}
use Rattle.policy_model.specs.declared.event.Event.{Event}
use Rattle.policy_model.specs.Asks.{is_proper}
use Rattle.policy_model.specs.Journal.{ask_count, has_lost, open_session_of, openings_of}
use Rattle.policy_model.specs.Legal.{IsLegal}
use Rattle.policy_model.specs.Settings.{Settings}

-- the rule that an event's ask names is in its range
pub record IsProperEvent (e : Event) : Type 0 where
  pub proper : is_proper e.ask ≡ true

-- the setup has the worker of this event
pub record IsOfWorker (setup : Settings) (e : Event) : Type 0 where
  pub below : e.worker < setup.workers

-- no event has a greater session than the last that was opened
abbrev pub AreNumbered : List Event → ℕ → Type 0
AreNumbered journal last = AllByRecursion (λ e. e.session ≤ last) journal

-- a journal at a moment of a run
pub record IsRun (setup : Settings) (journal : List Event) : Type 0 where
  pub legal : IsLegal setup journal
  pub proper : AllByRecursion IsProperEvent journal
  pub workers : AllByRecursion (IsOfWorker setup) journal
  pub numbered : AreNumbered journal (openings_of journal)

-- a worker's session is open, and its asks are within the setup's limit
pub record IsServing (setup : Settings) (journal : List Event) (worker session : ℕ) : Type 0 where
  pub run : IsRun setup journal
  pub opened : open_session_of journal worker ≡ session
  pub some : session ≢ 0
  pub below : ask_count journal session ≤ setup.requests

-- a worker has no open session, or some decision was lost
abbrev pub IsIdle : List Event → ℕ → Type 0
IsIdle journal worker = (open_session_of journal worker ≡ 0) ⊎ (has_lost journal ≡ true)

-- the open sessions of the other workers stay
pub record OthersStay (worker : ℕ) (old new : List Event) : Type 0 where
  pub others : (other : ℕ) → other ≢ worker → open_session_of new other ≡ open_session_of old other

-- a worker's session is still open after some events of the worker
pub record IsAfter (setup : Settings) (worker session : ℕ) (old new : List Event) : Type 0 where
  pub run : IsRun setup new
  pub opened : open_session_of new worker ≡ session
  pub others : OthersStay worker old new
