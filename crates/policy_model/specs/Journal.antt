-- Believed: what can be read off the journal, the one list of all events of all sessions.
use Rattle.std.specs.Prelude.{ℕ, Bool, ◌&&◌, ◌||◌, ◌==◌, not, List, [], ◌∷◌, ◌++◌, filter, count_by, Option, None}
use Rattle.std.specs.Prelude.{if◌then◌else◌}
use Rattle.std.specs.List.{last_or, list_any}
use Rattle.std.specs.Option.{option_map_or}
use Rattle.policy_model.specs.declared.event.Event.{Event}
use Rattle.policy_model.specs.Asks.{is_begin, is_end, is_permit, came_by_frame, is_lost, opens}

-- the events of a session, in order
abbrev pub events_of : List Event → ℕ → List Event
events_of journal session = filter (λ e. e.session == session) journal

-- a permitted opening or end of this worker
abbrev pub is_turn_of : ℕ → Event → Bool
is_turn_of worker e = e.worker == worker && (is_begin e.ask || is_end e.ask) && is_permit e.decision

-- a worker's open session: that of its last permitted opening, if no permitted end follows, otherwise 0
abbrev pub open_session_of : List Event → ℕ → ℕ
open_session_of journal worker =
    option_map_or (λ e. if is_begin e.ask then e.session else 0) (last_or None (filter (is_turn_of worker) journal)) 0

-- how many asks a session has made, apart from its opening and its end
abbrev pub ask_count : List Event → ℕ → ℕ
ask_count journal session = count_by (λ e. came_by_frame e.ask) (events_of journal session)

-- how many sessions were opened so far
abbrev pub openings_of : List Event → ℕ
openings_of journal = count_by opens journal

-- an event is of this session and passes the test
abbrev pub is_own : ℕ → (Event → Bool) → Event → Bool
is_own session p e = e.session == session && p e

-- some event of a session passes the test
abbrev pub has_event : List Event → ℕ → (Event → Bool) → Bool
has_event journal session p = list_any (is_own session p) journal

-- how many events of a session pass the test
abbrev pub count_of : List Event → ℕ → (Event → Bool) → ℕ
count_of journal session p = count_by (is_own session p) journal

-- the last event of a session that passes the test
abbrev pub last_event : List Event → ℕ → (Event → Bool) → Option Event
last_event journal session p = last_or None (filter (is_own session p) journal)

-- an event with all events before it
pub record Place : Type 0 where
  pub before : List Event
  pub event : Event

-- the places of the later events, after these earlier ones
abbrev pub places_after : List Event → List Event → List Place
places_after before [] = []
places_after before (e ∷ events) = record { before = before; event = e } ∷ places_after (before ++ e ∷ []) events

-- each event of a journal with all events before it, in order
abbrev pub places_of : List Event → List Place
places_of journal = places_after [] journal

-- some decision was lost
abbrev pub has_lost : List Event → Bool
has_lost journal = list_any (λ e. is_lost e.decision) journal

-- the events whose decisions weren't lost
abbrev pub kept_events : List Event → List Event
kept_events journal = filter (λ e. not (is_lost e.decision)) journal
