-- Believed: which journals are a drill's.
use Rattle.std.specs.Prelude.{◌≡◌, ℕ, ◌<◌, ◌≤◌, ◌==◌, Bool, true, false, List, [], ◌∷◌, ◌++◌, filter, length, slice_get}
use Rattle.std.specs.Prelude.{Some, MatchBool}
use Rattle.std.specs.List.{flat_map, list_any}
use Rattle.request_catalogue.specs.declared.rules.TheConstants.{NOT_IN_PHASE}
use Rattle.request_catalogue.specs.Catalogue.{RequestValue}
use Rattle.policy_model.specs.declared.event.Ask.TheVariants as asks
use Rattle.policy_model.specs.declared.event.Event.{Event}
use Rattle.policy_model.specs.declared.event.Why.{Why}
use Rattle.policy_model.specs.declared.event.Why.TheVariants.{Finished, Truncated, Violation}
use Rattle.policy_model.specs.Asks.{accepts, ends_session, is_permit, opens as is_opening}
use Rattle.drill_plan.specs.declared.class.Class.{Class}
use Rattle.drill_plan.specs.declared.class.Class.TheVariants.{LogsIn, Repeats, Exports, BreaksOff}
use Rattle.drill_plan.specs.Classes.{class_of}
use Rattle.drill_plan.specs.Passwords.{session_count}
use Rattle.drill_plan.specs.Requests.{IsAskFor, drill_requests}

-- the events ask these requests in order, all of them or up to the one that ended the session
abbrev pub AreAsked : List RequestValue → List Event → Type 0
AreAsked [] events = events ≡ []
AreAsked (request ∷ requests) [] = ⊥
AreAsked (request ∷ requests) (e ∷ events) =
    IsAskFor request e.ask × MatchBool (ends_session e) (events ≡ []) (AreAsked requests events)

-- why a session of this class ends, by whether its reply was accepted
abbrev pub drill_end : Class → Bool → Why
drill_end LogsIn true = Finished
drill_end LogsIn false = Violation NOT_IN_PHASE
drill_end Repeats accepted = Finished
drill_end Exports accepted = Violation NOT_IN_PHASE
drill_end BreaksOff accepted = Truncated

-- one session of a drill: a permitted opening, what the table asks, and a permitted end of the right kind
pub record IsDrillSession (n worker session : ℕ) (events : List Event) : Type 0 where
  pub opening : Event
  pub asked : List Event
  pub ending : Event
  pub parts : events ≡ opening ∷ asked ++ ending ∷ []
  pub opened : is_opening opening ≡ true
  pub requests : AreAsked (drill_requests n worker session) asked
  pub ended : ending.ask ≡ asks.End (drill_end (class_of n worker session) (list_any accepts asked))
  pub permitted : is_permit ending.decision ≡ true

-- a worker's events are those of its drill sessions, one after the other
pub record IsDrillOf (n worker : ℕ) (events : List Event) : Type 0 where
  pub sessions : List (List Event)
  pub all : events ≡ flat_map (λ session. session) sessions
  pub count : length sessions ≡ session_count n
  pub each : (k : ℕ) (session : List Event) → slice_get sessions k ≡ Some session → IsDrillSession n worker k session

-- the events of a worker
abbrev pub events_by : List Event → ℕ → List Event
events_by journal worker = filter (λ e. e.worker == worker) journal

-- the journal of the drill of n: the sessions of four workers, and of no other
pub record IsDrill (n : ℕ) (journal : List Event) : Type 0 where
  pub workers : (worker : ℕ) → worker < 4 → IsDrillOf n worker (events_by journal worker)
  pub others : (worker : ℕ) → 4 ≤ worker → events_by journal worker ≡ []
