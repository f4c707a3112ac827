-- Believed: the journals whose text is a legal log.
use Rattle.std.specs.Prelude.{◌≤◌, List, length}
use Rattle.std.specs.List.{AllByRecursion}
use Rattle.decision_log.specs.Typed.{IsTyped}
use Rattle.policy_model.specs.declared.event.Event.{Event}
use Rattle.policy_model.specs.declared.ranges.TheConstants.{EVENTS_LIMIT}
use Rattle.policy_model.specs.Legal.{IsLegal}
use Rattle.policy_model.specs.Runs.{IsOfWorker, IsProperEvent}
use Rattle.policy_model.specs.Settings.{Settings}

-- the journal of a run by this setup: legal, proper, of its workers, within the limit of events, each number in its
-- range
pub record IsJournalOf (setup : Settings) (journal : List Event) : Type 0 where
  pub legal : IsLegal setup journal
  pub proper : AllByRecursion IsProperEvent journal
  pub workers : AllByRecursion (IsOfWorker setup) journal
  pub few : length journal ≤ EVENTS_LIMIT
  pub typed : AllByRecursion IsTyped journal
