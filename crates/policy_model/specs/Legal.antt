-- Believed: the next event, and what a legal journal is.
use Rattle.std.specs.Prelude.{ℕ, ◌≡◌, ◌<◌, ◌+◌, true, List, length, take, slice_index_or, if◌then◌else◌}
use Rattle.policy_model.specs.declared.event.Ask.{Ask}
use Rattle.policy_model.specs.declared.event.Ask.TheVariants as asks
use Rattle.policy_model.specs.declared.event.Decision.{Decision}
use Rattle.policy_model.specs.declared.event.Decision.TheVariants.{Permit, Deny, Lost}
use Rattle.policy_model.specs.declared.event.Event.{Event}
use Rattle.policy_model.specs.Asks.{is_lost}
use Rattle.policy_model.specs.Journal.{open_session_of, openings_of, has_lost}
use Rattle.policy_model.specs.Verdict.{verdict_of}
use Rattle.policy_model.specs.Settings.{Settings}

-- the session of an opening: the next number if permitted, 0 if lost, otherwise the one that is open
abbrev pub opening_session : List Event → ℕ → Decision → ℕ
opening_session journal worker (Permit value) = openings_of journal + 1
opening_session journal worker (Deny rule detail) = open_session_of journal worker
opening_session journal worker Lost = 0

-- the session that a worker's event with this ask and decision has after this journal
unfoldable pub session_of : List Event → ℕ → Ask → Decision → ℕ
session_of journal worker asks.Begin decision = opening_session journal worker decision
session_of journal worker _ decision = open_session_of journal worker

-- a worker's event with this ask and this decision, and the session that follows from them
abbrev pub event_with : List Event → ℕ → Ask → Decision → Event
event_with journal worker ask decision =
    record { worker = worker; session = session_of journal worker ask decision; ask = ask; decision = decision }

-- the event that the policy gives for a worker's ask after this journal
abbrev pub next_event : Settings → List Event → ℕ → Ask → Event
next_event setup journal worker ask = event_with journal worker ask (verdict_of setup journal worker ask)

-- an event may follow a journal: its decision is the policy's, or lost; after a lost one all are lost
pub record IsNext (setup : Settings) (before : List Event) (e : Event) : Type 0 where
  pub decided : e ≡ event_with before e.worker e.ask (if is_lost e.decision then Lost
      else verdict_of setup before e.worker e.ask)
  pub lost : has_lost before ≡ true → is_lost e.decision ≡ true

-- a legal journal: each event may follow those before it
abbrev pub IsLegal : Settings → List Event → Type 0
IsLegal setup journal =
    (k : ℕ) (d : Event) → k < length journal → IsNext setup (take k journal) (slice_index_or journal k d)
