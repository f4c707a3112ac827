-- Inner: what a crash at any moment of a run leaves of its log, and what recovery makes of that.
use Rattle.std.specs.Prelude.{◌≡◌, ℕ, ◌≤◌, ◌+◌, ◌-◌, ◌/◌, min, Bool, false, List, length, take, Result}
use Rattle.std.specs.List.{AllByRecursion}
use Rattle.policy_model.specs.declared.event.Event.{Event}
use Rattle.policy_model.specs.declared.ranges.TheConstants.{EVENTS_LIMIT}
use Rattle.policy_model.specs.Journal.{kept_events}
use Rattle.policy_model.specs.Legal.{IsLegal}
use Rattle.policy_model.specs.Runs.{IsProperEvent}
use Rattle.policy_model.specs.Settings.{IsInRange, Settings}
use Rattle.decision_log.specs.Typed.{IsTyped}
use Rattle.monitor_book.specs.Lines.{decided_in}
use Rattle.durable_log.specs.Disk.{AtEachMoment, Story, moment_of, states_of}
use Rattle.durable_log.specs.Records.{HasRecords}
use Rattle.ledger_journal.specs.declared.answer.Recovered.{Recovered}
use Rattle.ledger_journal.specs.declared.answer.RecoverError.{RecoverError}
use Rattle.ledger_journal.specs.Journals.{IsBackAt, IsRecoveredAs, records_of}
use Rattle.ledger_journal.specs.Recovering.{IsAnswerOf}

-- the journal of a run: it is legal, its asks are proper, it has at most as many events as
-- a run makes, and those that it decided are in the ranges of their types
pub record IsRunOf (setup : Settings) (journal : List Event) : Type 0 where
  pub in_range : IsInRange setup
  pub legal : IsLegal setup journal
  pub proper : AllByRecursion IsProperEvent journal
  pub few : length journal ≤ EVENTS_LIMIT
  pub typed : AllByRecursion IsTyped (decided_in setup journal)

-- recovery from these records answers that each account is as these events say, or that memory ran out
abbrev pub BringsBack : Settings → List Event → Type 0
BringsBack setup events =
    (result : Result Recovered RecoverError) → IsAnswerOf setup (records_of events) result
    → IsRecoveredAs (IsBackAt setup events) result

-- an image has the lines of the first events that a run decided, so many at least, and recovery brings these back
pub record HasFirst (setup : Settings) (journal : List Event) (least : ℕ) (image : List ℕ) : Type 0 where
  pub count : ℕ
  pub enough : least ≤ count
  pub records : HasRecords image (records_of (take count (decided_in setup journal)))
  pub back : BringsBack setup (take count (decided_in setup journal))

-- Of a log of this story so many lines were answered `Ok`: all that were kept where no append failed, and else all but
-- perhaps the last of them. From when it was made, each image that a crash at any moment might have left has the lines
-- of the run's first events, and of those that were answered by then all: a line takes four calls.
pub record LosesNoEvent (setup : Settings) (journal : List Event) (stopped : Bool) (first now : Story) : Type 0 where
  pub answered : ℕ
  pub enough : length (kept_events journal) ≤ answered + 1
  pub all : stopped ≡ false → length (kept_events journal) ≤ answered
  pub each : AtEachMoment (moment_of first)
      (λ moment. HasFirst setup journal (min ((moment - moment_of first) / 4) answered)) (states_of now)
