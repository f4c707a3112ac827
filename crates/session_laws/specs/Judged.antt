-- Inner: what is decided of an ask, by what is kept of its session.
use Rattle.std.specs.Prelude.{ℕ, ◌+◌, ◌==◌, ◌&&◌, ◌||◌, Bool, true, false, not, if◌then◌else◌}
use Rattle.request_catalogue.specs.declared.rules.TheConstants.{ASKS_SPENT, NOT_IN_PHASE, ONCE_ONLY}
use Rattle.policy_model.specs.declared.event.Ask.{Ask}
use Rattle.policy_model.specs.declared.event.Ask.TheVariants as asks
use Rattle.policy_model.specs.declared.event.Decision.{Decision}
use Rattle.policy_model.specs.declared.event.Decision.TheVariants.{Permit, Deny}
use Rattle.policy_model.specs.declared.event.Event.{Event}
use Rattle.policy_model.specs.declared.phase.Phase.{Phase}
use Rattle.policy_model.specs.declared.phase.Phase.TheVariants.{Over}
use Rattle.policy_model.specs.declared.phase.Row.{Row}
use Rattle.policy_model.specs.Asks.{request_number}

abbrev pub is_over_phase : Phase → Bool
is_over_phase Over = true
is_over_phase _ = false

-- an opening and an end, by the worker's open session, 0 where it has none, and how many were opened
abbrev pub opening_decision : ℕ → ℕ → Decision
opening_decision session openings = if session == 0 then Permit (openings + 1) else Deny NOT_IN_PHASE 0

abbrev pub closing_decision : ℕ → Decision
closing_decision session = if session == 0 then Deny NOT_IN_PHASE 0 else Permit 0

-- any other ask, by the session, its phase, the asks that it made, and what else is decided of it
abbrev pub request_decision : ℕ → ℕ → Phase → ℕ → Ask → Decision → Decision
request_decision requests session phase asked ask decision =
    if session == 0 || is_over_phase phase then Deny NOT_IN_PHASE (request_number ask)
    else (if asked == requests then Deny ASKS_SPENT requests
    else decision)

-- a request of a kind, by its cell of the phase table, whether one of
-- the kind was permitted, and what else is decided of it
abbrev pub cell_decision : Row → Bool → Ask → Decision → Decision
cell_decision row had ask decision =
    if not row.permitted then Deny NOT_IN_PHASE (request_number ask)
    else (if row.once && had then Deny ONCE_ONLY (request_number ask)
    else decision)

-- a request that nothing but the table may refuse
abbrev pub is_free_ask : Ask → Bool
is_free_ask asks.Banner = true
is_free_ask asks.Abandon = true
is_free_ask asks.Import = true
is_free_ask (asks.Note text) = true
is_free_ask asks.Finish = true
is_free_ask _ = false

-- the session of an event that isn't lost: the next number for a permitted opening, else the worker's open one
abbrev pub event_session : ℕ → ℕ → Ask → Decision → ℕ
event_session session openings asks.Begin (Permit value) = openings + 1
event_session session openings _ _ = session

-- the event of a worker with its open session, by how many were opened
abbrev pub event_by : ℕ → ℕ → ℕ → Ask → Decision → Event
event_by worker session openings ask decision =
    record { worker = worker; session = event_session session openings ask decision; ask = ask; decision = decision }
