-- Believed: the files that a session has open.
use Rattle.std.specs.Prelude.{ℕ, not, ◌==◌, ◌&&◌, List, [], ◌∷◌, Option, is_none, unwrap_or, if◌then◌else◌}
use Rattle.std.specs.List.{find, list_any}
use Rattle.policy_model.specs.declared.event.Event.{Event}
use Rattle.policy_model.specs.declared.handles.TheConstants.{HANDLE_NUMBERS}
use Rattle.policy_model.specs.Asks.{closes_file, opens_file, value_of}
use Rattle.policy_model.specs.Journal.{events_of}

-- the permitted OPENs whose handle no later permitted CLOSE closes
abbrev pub live_opens : List Event → List Event
live_opens [] = []
live_opens (e ∷ events) =
    if opens_file e && not (list_any (closes_file (value_of e.decision)) events) then e ∷ live_opens events
    else live_opens events

-- the open handles of a session, as the permitted OPENs that gave them
unfoldable pub live_handles_of : List Event → ℕ → List Event
live_handles_of journal session = live_opens (events_of journal session)

-- the event that opened a handle, if the handle is open
abbrev pub handle_opening : List Event → ℕ → ℕ → Option Event
handle_opening journal session handle = find (λ e. value_of e.decision == handle) (live_handles_of journal session)

-- the least handle of 1 to 8 that isn't open, or 0
abbrev pub free_handle_of : List Event → ℕ → ℕ
free_handle_of journal session = unwrap_or (find (λ n. is_none (handle_opening journal session n)) HANDLE_NUMBERS) 0
