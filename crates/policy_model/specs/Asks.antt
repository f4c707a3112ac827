-- Believed: what can be read off one ask, one decision and one event. An ask is an opening, one of the thirteen
-- requests, a frame that is no request, or an end. An event is an ask of a worker in a session, with its decision: a
-- permit with a value, a denial by a rule with a detail, or lost. The 22 rules are constants of the code
-- (`crates/request_catalogue/src/rules.rt`).
use Rattle.std.specs.Prelude.{ℕ, Bool, true, false, not, ◌&&◌, ◌||◌, ◌==◌, nat_le, nat_lt, is_some, Option, Some, None}
use Rattle.std.specs.Prelude.{if◌then◌else◌}
use Rattle.std.specs.Option.{option_map_or}
use Rattle.request_catalogue.specs.declared.rules.TheConstants.{HOLD_LOST, NO_MATCH}
use Rattle.request_catalogue.specs.declared.texts.Label.{Label}
use Rattle.request_catalogue.specs.declared.texts.Name.{Name}
use Rattle.request_catalogue.specs.declared.kind.Kind.{Kind}
use Rattle.request_catalogue.specs.declared.kind.Kind.TheVariants as kinds
use Rattle.request_catalogue.specs.Kinds.{kind_number}
use Rattle.policy_model.specs.declared.event.Why.TheVariants as whys
use Rattle.policy_model.specs.declared.event.Ask.{Ask}
use Rattle.policy_model.specs.declared.event.Ask.TheVariants as asks
use Rattle.policy_model.specs.declared.event.Decision.{Decision}
use Rattle.policy_model.specs.declared.event.Decision.TheVariants as decisions
use Rattle.policy_model.specs.declared.event.Event.{Event}
use Rattle.policy_model.specs.declared.reading.TheConstants.{DECOYS_FROM}
use Rattle.policy_model.specs.Settings.{same_name}

-- an ask is the opening of a session
abbrev pub is_begin : Ask → Bool
is_begin asks.Begin = true
is_begin _ = false

-- an ask is the end of a session
abbrev pub is_end : Ask → Bool
is_end (asks.End why) = true
is_end _ = false

-- an ask that came by a frame of a child: neither an opening nor an end
abbrev pub came_by_frame : Ask → Bool
came_by_frame ask = not (is_begin ask) && not (is_end ask)

-- a CLOSE of this handle
abbrev pub is_close : ℕ → Ask → Bool
is_close handle (asks.CloseFile other) = other == handle
is_close handle _ = false

-- the user that a CHALLENGE names
abbrev pub challenge_name : Ask → Option Name
challenge_name (asks.Challenge user now) = Some user
challenge_name _ = None

-- an ask is a CHALLENGE
abbrev pub is_challenge : Ask → Bool
is_challenge (asks.Challenge user now) = true
is_challenge _ = false

-- the moment of a CHALLENGE, in milliseconds; 0 for any other ask
abbrev pub moment_of : Ask → ℕ
moment_of (asks.Challenge user now) = now
moment_of _ = 0

-- the mode of an OPEN: 1 to read, 2 to write, 3 for both
abbrev pub mode_of : Ask → ℕ
mode_of (asks.OpenFile mode name) = mode
mode_of _ = 0

-- the file's label that an OPEN gives
abbrev pub label_named : Ask → Option Label
label_named (asks.OpenFile mode name) = Some name
label_named _ = None

-- the rule that an ask names is in its range: 2 to 5 for a bad frame, 1 to 7 for a violation
abbrev pub is_proper : Ask → Bool
is_proper (asks.Bad rule detail) = nat_le 2 rule && nat_le rule 5
is_proper (asks.End (whys.Violation rule)) = nat_le 1 rule && nat_le rule 7
is_proper _ = true

-- the kind of the request that an ask is, if it is one
abbrev pub kind_of : Ask → Option Kind
kind_of asks.Begin = None
kind_of asks.Banner = Some kinds.Banner
kind_of (asks.Challenge user now) = Some kinds.Challenge
kind_of (asks.Reply words hex) = Some kinds.Reply
kind_of asks.Abandon = Some kinds.Abandon
kind_of (asks.Export len) = Some kinds.Export
kind_of asks.Import = Some kinds.Import
kind_of (asks.ReadAt handle offset max) = Some kinds.ReadAt
kind_of (asks.WriteAt handle offset len) = Some kinds.WriteAt
kind_of (asks.OpenFile mode name) = Some kinds.OpenFile
kind_of (asks.CloseFile handle) = Some kinds.CloseFile
kind_of (asks.Info number) = Some kinds.Info
kind_of (asks.Note text) = Some kinds.Note
kind_of asks.Finish = Some kinds.Finish
kind_of (asks.Bad rule detail) = None
kind_of (asks.End why) = None

-- the number of the request that an ask is; 0 for an opening, an end and a frame that is no request
abbrev pub request_number : Ask → ℕ
request_number ask = option_map_or kind_number (kind_of ask) 0

-- a request of this kind
abbrev pub is_kind : Kind → Ask → Bool
is_kind kind ask = request_number ask == kind_number kind

-- a decision is a permit
abbrev pub is_permit : Decision → Bool
is_permit (decisions.Permit value) = true
is_permit _ = false

-- a decision was lost
abbrev pub is_lost : Decision → Bool
is_lost decisions.Lost = true
is_lost _ = false

-- the value of a permit; 0 for any other decision
abbrev pub value_of : Decision → ℕ
value_of (decisions.Permit value) = value
value_of _ = 0

-- a denial by one of the rules 13 to 16, which are about replies
abbrev pub is_login_denial : Decision → Bool
is_login_denial (decisions.Deny rule detail) = nat_le HOLD_LOST rule && nat_le rule NO_MATCH
is_login_denial _ = false

-- what a child is told of a decision: a denial by rules 13 to 16 as rule 16 with detail 0, any other as it is
abbrev pub shown_of : Decision → Decision
shown_of decision = if is_login_denial decision then decisions.Deny NO_MATCH 0 else decision

-- a denial that ends its session: by one of the rules 1 to 7
abbrev pub is_violation : Decision → Bool
is_violation (decisions.Deny rule detail) = nat_le 1 rule && nat_le rule 7
is_violation _ = false

-- a permitted opening
abbrev pub opens : Event → Bool
opens e = is_begin e.ask && is_permit e.decision

-- a permitted request of this kind
abbrev pub permits_kind : Kind → Event → Bool
permits_kind kind e = is_kind kind e.ask && is_permit e.decision

-- after this event its session is over: an end, a permitted FINISH, a denial by rules 1 to 7, or a lost decision
abbrev pub ends_session : Event → Bool
ends_session e = is_end e.ask || permits_kind kinds.Finish e || is_violation e.decision || is_lost e.decision

-- a permitted CHALLENGE, for whatever user
abbrev pub takes : Event → Bool
takes e = is_some (challenge_name e.ask) && is_permit e.decision

-- a name is given, and it is this user's
abbrev pub is_user : Name → Option Name → Bool
is_user user found = option_map_or (λ name. same_name name user) found false

-- a permitted CHALLENGE for this user
abbrev pub takes_user : Name → Event → Bool
takes_user user e = is_user user (challenge_name e.ask) && is_permit e.decision

-- a permitted CHALLENGE for this user that isn't a decoy, so it reserves the user
abbrev pub reserves : Name → Event → Bool
reserves user e = takes_user user e && nat_lt (value_of e.decision) DECOYS_FROM

-- after this event its session holds no user: a REPLY, whatever was decided, or a permitted ABANDON
abbrev pub gives_up : Event → Bool
gives_up e = is_kind kinds.Reply e.ask || permits_kind kinds.Abandon e

-- an event by which its session leaves whom it holds: it gives up, or it ends
abbrev pub leaves : Event → Bool
leaves e = gives_up e || ends_session e

-- an event by which a session takes a user or gives it up
abbrev pub is_login_step : Event → Bool
is_login_step e = takes e || gives_up e

-- a permitted REPLY
abbrev pub accepts : Event → Bool
accepts e = permits_kind kinds.Reply e

-- a REPLY that was denied by one of the rules 13 to 16
abbrev pub is_denied_reply : Event → Bool
is_denied_reply e = is_kind kinds.Reply e.ask && is_login_denial e.decision

-- a permitted EXPORT
abbrev pub exports : Event → Bool
exports e = permits_kind kinds.Export e

-- a permitted OPEN; its value is the handle
abbrev pub opens_file : Event → Bool
opens_file e = permits_kind kinds.OpenFile e

-- a permitted CLOSE of this handle
abbrev pub closes_file : ℕ → Event → Bool
closes_file handle e = is_close handle e.ask && is_permit e.decision
