-- Believed: the phases of a session, of which it has the first that applies, and the phase table:
--   1. over: the session has no permitted opening, or an event that ends it (`ends_session`)
--   2. user: it has a permitted EXPORT
--   3. verified: it has a permitted REPLY
--   4. challenged: of its permitted CHALLENGEs, all its REPLYs and its permitted ABANDONs the last one is a CHALLENGE
--   5. before the login; so a denied REPLY leads back here, and a denied second opening ends the open session
use Rattle.std.specs.Prelude.{ℕ, Bool, false, not, ◌||◌, List, if◌then◌else◌}
use Rattle.std.specs.List.{list_any}
use Rattle.std.specs.Option.{option_map_or}
use Rattle.request_catalogue.specs.declared.kind.Kind.{Kind}
use Rattle.request_catalogue.specs.declared.kind.Kind.TheVariants as kinds
use Rattle.policy_model.specs.declared.event.Event.{Event}
use Rattle.policy_model.specs.declared.phase.Phase.{Phase}
use Rattle.policy_model.specs.declared.phase.Phase.TheVariants.{Pre, Challenged, Verified, User, Over}
use Rattle.policy_model.specs.declared.phase.Row.{Row}
use Rattle.policy_model.specs.declared.phase.TheConstants.Row as rows
use Rattle.policy_model.specs.Asks.{accepts, ends_session, exports, is_login_step, opens, takes}
use Rattle.policy_model.specs.Journal.{events_of, has_event, last_event}

-- a session has no permitted opening, or one of its events ended it
abbrev pub is_over : List Event → ℕ → Bool
is_over journal session =
    not (list_any opens (events_of journal session)) || list_any ends_session (events_of journal session)

-- the phase of a session, by its events: over, user, verified, challenged or before the login, the first that applies
unfoldable pub phase_of : List Event → ℕ → Phase
phase_of journal session =
    if is_over journal session then Over
    else (if has_event journal session exports then User
    else (if has_event journal session accepts then Verified
    else (if option_map_or takes (last_event journal session is_login_step) false then Challenged
    else Pre)))

-- the phase table: whether a request of this kind is permitted in a phase, and whether only once
abbrev pub table_row : Phase → Kind → Row
table_row Over kind = rows.NONE
table_row Pre kinds.Banner = rows.ONCE
table_row Challenged kinds.Banner = rows.ONCE
table_row Pre kinds.Challenge = rows.FREE
table_row Challenged kinds.Reply = rows.DECIDING
table_row Challenged kinds.Abandon = rows.FREE
table_row Verified kinds.Export = rows.ONCE
table_row User kinds.Import = rows.ONCE
table_row phase kinds.ReadAt = rows.FREE
table_row phase kinds.WriteAt = rows.FREE
table_row User kinds.OpenFile = rows.FREE
table_row User kinds.CloseFile = rows.FREE
table_row User kinds.Info = rows.FREE
table_row phase kinds.Note = rows.FREE
table_row phase kinds.Finish = rows.FREE
table_row _ _ = rows.NONE
