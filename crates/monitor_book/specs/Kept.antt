-- Inner: what a book keeps.
use Rattle.std.specs.Prelude.{◌≡◌, ℕ, ◌≤◌, ◌+◌, Bool, true, false, List, [], length, Option}
use Rattle.std.specs.List.{AllByRecursion}
use Rattle.std.specs.Option.{option_map_or}
use Rattle.decision_log.specs.Log.{line_of}
use Rattle.decision_log.specs.Typed.{IsTyped}
use Rattle.outside.specs.Told.{Rose}
use Rattle.policy_model.specs.declared.event.Event.{Event}
use Rattle.policy_model.specs.Journal.{has_lost, kept_events}
use Rattle.policy_model.specs.Legal.{next_event}
use Rattle.policy_model.specs.Runs.{IsRun}
use Rattle.policy_model.specs.Settings.{IsInRange, Settings, events_max, quota_of}
use Rattle.session_core.specs.Parts.{CoreParts, setup_of}
use Rattle.session_core.specs.Standing.{Stands}
use Rattle.turn_cell.specs.Facts.{IsWithin}
use Rattle.monitor_book.specs.declared.opened.Held.{Held}
use Rattle.monitor_book.specs.Lines.{LogMatches, decided_in}

-- the line that a lost event would have had after those that were kept, where there is one
abbrev pub lost_line_of : Settings → List Event → Option Event → List ℕ
lost_line_of setup kept lost =
    option_map_or (λ e. line_of (length kept + 1) (next_event setup kept e.worker e.ask)) lost []

-- What contracts see of a book: the core, all events, whether one was lost; what the log held when the book
-- was made and holds now, and its faults then and now
pub record BookParts : Type 0 where
  pub core : CoreParts
  pub journal : List Event
  pub lost : Bool
  pub held_first : Held
  pub held : Held
  pub faults_first : ℕ
  pub faults : ℕ

abbrev pub book_parts : CoreParts → List Event → Bool → Held → Held → ℕ → ℕ → BookParts
book_parts core journal lost held_first held faults_first faults = record {
  core = core;
  journal = journal;
  lost = lost;
  held_first = held_first;
  held = held;
  faults_first = faults_first;
  faults = faults;
}

-- who made the ask of an event
abbrev pub worker_of : Event → ℕ
worker_of e = e.worker

-- the events that each worker may make are within its quota
abbrev pub IsWithinQuota : Settings → List Event → Type 0
IsWithinQuota setup journal = IsWithin worker_of setup.workers (quota_of setup) journal

-- the setup is in its ranges; the journal is legal, of the setup's workers and within their
-- quotas, and the events that were decided are in the ranges of their types; the core stands
-- for the events that were kept, and has room for a session of each event
pub record IsHistory (core : CoreParts) (journal : List Event) (lost : Bool) : Type 0 where
  pub in_range : IsInRange (setup_of core)
  pub run : IsRun (setup_of core) journal
  pub stands : Stands core (kept_events journal)
  pub known : has_lost journal ≡ lost
  pub within : IsWithinQuota (setup_of core) journal
  pub typed : AllByRecursion IsTyped (decided_in (setup_of core) journal)
  pub sessions : events_max (setup_of core) ≤ core.ledger.cap

-- the log has the journal's lines after what it held at first, and an event was lost exactly by a fault of the log
pub record IsLogged (setup : Settings) (journal : List Event) (held_first held : Held) (faults_first faults : ℕ)
    : Type 0 where
  pub lines : LogMatches setup journal held_first held
  pub rose : has_lost journal ≡ true → Rose faults_first faults
  pub kept : has_lost journal ≡ false → faults ≡ faults_first
  pub counted : faults_first ≤ faults

-- what every book keeps
pub record IsBook (book : BookParts) : Type 0 where
  pub history : IsHistory book.core book.journal book.lost
  pub logged : IsLogged (setup_of book.core) book.journal book.held_first book.held book.faults_first book.faults
