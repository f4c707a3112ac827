-- Believed: what the log holds of a journal.
use Rattle.std.specs.Prelude.{◌≡◌, ℕ, ◌+◌, List, [], ◌∷◌, ◌++◌, length, take, find, Option, option_map}
use Rattle.std.specs.Prelude.{if◌then◌else◌}
use Rattle.std.specs.Option.{option_map_or, option_to_list}
use Rattle.outside.specs.Told.{Gains, Goes}
use Rattle.policy_model.specs.declared.event.Event.{Event}
use Rattle.policy_model.specs.Asks.{is_lost}
use Rattle.policy_model.specs.Journal.{has_lost, kept_events}
use Rattle.policy_model.specs.Legal.{next_event}
use Rattle.policy_model.specs.Settings.{Settings}
use Rattle.decision_log.specs.Log.{line_of, log_text}
use Rattle.monitor_book.specs.declared.opened.Held.{Held}

-- what a log holds, of which these report its bytes and the lengths of its appends
abbrev pub held_by : {K : Type 0} → (K → Option (List ℕ)) → (K → Option (List ℕ)) → K → Held
held_by bytes lengths log = record { bytes = bytes log; lengths = lengths log }

-- nothing was appended to a log, where it reports
pub record IsUnwritten (before after : Held) : Type 0 where
  pub bytes : Gains before.bytes [] after.bytes
  pub lengths : Gains before.lengths [] after.lengths

-- the line that the first lost event would have had; nothing if none was lost
abbrev pub lost_line : Settings → List Event → List ℕ
lost_line setup journal =
    let kept = kept_events journal in
    option_map_or (λ e. line_of (length kept + 1) (next_event setup kept e.worker e.ask))
    (find (λ e. is_lost e.decision) journal) []

-- the log holds what it held, then the lines of the kept events, then at most a first part of the lost event's line
pub record HoldsLines (setup : Settings) (journal : List Event) (before after : List ℕ) : Type 0 where
  pub lines : (n : ℕ) × (after ≡ before ++ log_text journal ++ take n (lost_line setup journal))

-- the length of the line of each of these events, numbered on from so many before them
abbrev pub lengths_after : ℕ → List Event → List ℕ
lengths_after count [] = []
lengths_after count (e ∷ events) = length (line_of (count + 1) e) ∷ lengths_after (count + 1) events

-- after its earlier appends the log had one for each kept event, of just its line, and one more if an event was lost
pub record AppendsLines (journal : List Event) (before after : List ℕ) : Type 0 where
  pub appends : (n : ℕ)
      × (after ≡ before ++ lengths_after 0 (kept_events journal) ++ (if has_lost journal then n ∷ [] else []))

-- where the log reports: it holds what it held and the lines of the journal, each by one append
pub record LogMatches (setup : Settings) (journal : List Event) (before after : Held) : Type 0 where
  pub lines : Goes (HoldsLines setup journal) before.bytes after.bytes
  pub appends : Goes (AppendsLines journal) before.lengths after.lengths

-- the event whose line was lost first, as the policy decides it, if one was
abbrev pub lost_event : Settings → List Event → Option Event
lost_event setup journal =
    option_map (λ e. next_event setup (kept_events journal) e.worker e.ask) (find (λ e. is_lost e.decision) journal)

-- the events that a run decided: those that it kept, and that one
abbrev pub decided_in : Settings → List Event → List Event
decided_in setup journal = kept_events journal ++ option_to_list (lost_event setup journal)
