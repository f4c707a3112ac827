-- Inner: what is kept of a worker's open session, and what it decides.
use Rattle.std.specs.Prelude.{ℕ, ◌≡◌, ◌≢◌, ◌<◌, ◌≤◌, ◌+◌, ◌==◌, ◌||◌, Bool, true, false, List, length, slice_index_or}
use Rattle.std.specs.Prelude.{Option, Some, None, if◌then◌else◌}
use Rattle.request_catalogue.specs.declared.rules.TheConstants.{ASKS_SPENT, NOT_IN_PHASE}
use Rattle.policy_model.specs.declared.event.Ask.{Ask}
use Rattle.policy_model.specs.declared.event.Ask.TheVariants as asks
use Rattle.policy_model.specs.declared.event.Decision.{Decision}
use Rattle.policy_model.specs.declared.event.Decision.TheVariants.{Permit, Deny}
use Rattle.policy_model.specs.declared.event.Event.{Event}
use Rattle.policy_model.specs.Asks.{came_by_frame, ends_session, is_begin, is_end, request_number}
use Rattle.policy_model.specs.Journal.{ask_count, is_turn_of, open_session_of}
use Rattle.policy_model.specs.Phases.{is_over}
use Rattle.session_laws.specs.Judged.{closing_decision, opening_decision}
use Rattle.audit_check.specs.declared.seats.Seat.{Seat}

-- that of a worker without one
abbrev pub vacant : Seat
vacant = record { session = 0; over = false; asks = 0 }

-- what a log says of a worker's open session: whether it is over and how many asks it made, where there is one
pub record IsSeat (seat : Seat) (worker : ℕ) (events : List Event) : Type 0 where
  pub session : seat.session ≡ open_session_of events worker
  pub over : seat.session ≢ 0 → seat.over ≡ is_over events seat.session
  pub asks : seat.session ≢ 0 → seat.asks ≡ ask_count events seat.session
  pub few : seat.asks ≤ length events

-- what an event of its worker makes of it: a permitted opening or end begins it anew
abbrev pub seat_after : Event → Seat → Seat
seat_after e seat =
    if is_turn_of e.worker e then record { session = if is_begin e.ask then e.session else 0; over = false; asks = 0 }
    else record {
      session = seat.session;
      over = seat.over || ends_session e;
      asks = seat.asks + (if came_by_frame e.ask
          then 1 else 0);
    }

-- the seat of an event's worker goes on, and any other stays
pub record AreSeated (e : Event) (old new : List Seat) : Type 0 where
  pub same : length new ≡ length old
  pub each : (n : ℕ) (d : Seat) → n < length old → slice_index_or new n d
      ≡ (if n == e.worker then seat_after e (slice_index_or old n d) else slice_index_or old n d)

-- no worker has an open session
abbrev pub AreVacant : List Seat → Type 0
AreVacant seats = (n : ℕ) (d : Seat) → n < length seats → slice_index_or seats n d ≡ vacant

-- an ask that is permitted in every session that isn't over and has asks left:
-- a READ or WRITE of the client's connection, a NOTE, a FINISH
abbrev pub is_common : Ask → Bool
is_common (asks.ReadAt handle offset max) = handle == 0
is_common (asks.WriteAt handle offset len) = handle == 0
is_common (asks.Note text) = true
is_common asks.Finish = true
is_common _ = false

-- the verdict on an ask that came by a frame, where what its session has come to decides it
abbrev pub frame_verdict : ℕ → Seat → Ask → Option Decision
frame_verdict requests seat ask =
    if seat.session == 0 || seat.over then Some (Deny NOT_IN_PHASE (request_number ask))
    else (if seat.asks == requests then Some (Deny ASKS_SPENT requests)
    else (if is_common ask then Some (Permit 0)
    else None))

-- the same of any ask, where so many sessions were opened
abbrev pub seat_verdict : ℕ → ℕ → Seat → Ask → Option Decision
seat_verdict requests opened seat ask =
    if is_begin ask then Some (opening_decision seat.session opened)
    else (if is_end ask then Some (closing_decision seat.session)
    else frame_verdict requests seat ask)
