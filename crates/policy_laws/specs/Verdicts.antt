-- Inner: what a stranger is shown, by what the session was told before.
use Rattle.std.specs.Prelude.{ℕ, ◌≡◌, Bool, true, false, ◌&&◌, ◌||◌, ◌==◌, List, filter, length, take, Option, Some}
use Rattle.std.specs.Prelude.{None, if◌then◌else◌}
use Rattle.std.specs.List.{last_or, list_any}
use Rattle.request_catalogue.specs.declared.kind.Kind.{Kind}
use Rattle.request_catalogue.specs.declared.kind.Kind.TheVariants as kinds
use Rattle.request_catalogue.specs.declared.rules.TheConstants.{ASKS_SPENT, NOT_IN_PHASE, ONCE_ONLY, NO_MATCH}
use Rattle.request_catalogue.specs.declared.rules.TheConstants.{NO_HANDLE}
use Rattle.request_catalogue.specs.Kinds.{kind_number}
use Rattle.policy_model.specs.declared.event.Ask.{Ask}
use Rattle.policy_model.specs.declared.event.Ask.TheVariants as asks
use Rattle.policy_model.specs.declared.event.Decision.{Decision}
use Rattle.policy_model.specs.declared.event.Decision.TheVariants.{Permit, Deny}
use Rattle.policy_model.specs.declared.event.Event.{Event}
use Rattle.policy_model.specs.Asks.{came_by_frame, is_permit, is_proper, is_violation, request_number, shown_of}
use Rattle.policy_model.specs.Cases.{number_of_kind}
use Rattle.policy_model.specs.Settings.{Settings}
use Rattle.policy_laws.specs.Strangers.{IsStrangersAsk, Told, told_in}

-- it was of this kind
abbrev pub told_kind : Kind → Told → Bool
told_kind kind t = number_of_kind t.kind == kind_number kind

-- it was of this kind and permitted
abbrev pub told_permit : Kind → Told → Bool
told_permit kind t = told_kind kind t && is_permit t.decision

-- it ended the session: a permitted FINISH, or a denial by one of the rules 1 to 7
abbrev pub told_end : Told → Bool
told_end t = told_permit kinds.Finish t || is_violation t.decision

-- it was a permitted CHALLENGE, a REPLY, or a permitted ABANDON
abbrev pub told_login_step : Told → Bool
told_login_step t = told_permit kinds.Challenge t || (told_kind kinds.Reply t || told_permit kinds.Abandon t)

abbrev pub told_taking : Option Told → Bool
told_taking None = false
told_taking (Some t) = told_permit kinds.Challenge t

-- the last of these was a permitted CHALLENGE
abbrev pub is_challenged : List Told → Bool
is_challenged told = told_taking (last_or None (filter told_login_step told))

-- the rules of one kind of request
abbrev pub stranger_kind : List Told → Ask → Decision
stranger_kind told asks.Banner = if list_any (told_permit kinds.Banner) told then Deny ONCE_ONLY 1 else Permit 0
stranger_kind told (asks.Reply words hex) = if is_challenged told then Deny NO_MATCH 0 else Deny NOT_IN_PHASE 3
stranger_kind told asks.Abandon = if is_challenged told then Permit 0 else Deny NOT_IN_PHASE 4
stranger_kind told (asks.Export len) = Deny NOT_IN_PHASE 5
stranger_kind told asks.Import = Deny NOT_IN_PHASE 6
stranger_kind told (asks.ReadAt handle offset max) = if handle == 0 then Permit 0 else Deny NO_HANDLE handle
stranger_kind told (asks.WriteAt handle offset len) = if handle == 0 then Permit 0 else Deny NO_HANDLE handle
stranger_kind told (asks.OpenFile mode name) = Deny NOT_IN_PHASE 9
stranger_kind told (asks.CloseFile handle) = Deny NOT_IN_PHASE 10
stranger_kind told (asks.Info number) = Deny NOT_IN_PHASE 11
stranger_kind told (asks.Bad rule detail) = Deny rule detail
stranger_kind told _ = Permit 0

-- what a stranger is told of an ask other than an opening, an end and a CHALLENGE, by what the
-- session was told before: it looks at no account, no password, no reading and no moment
unfoldable pub stranger_verdict : ℕ → List Told → Ask → Decision
stranger_verdict requests told ask =
    if list_any told_end told then Deny NOT_IN_PHASE (request_number ask)
    else (if length told == requests then Deny ASKS_SPENT requests
    else stranger_kind told ask)

-- strangers are told alike: what is shown of each ask of a stranger that came by a frame is the stranger's verdict
pub record StrangersAreToldAlike (setup : Settings) (journal : List Event) : Type 0 where
  pub told : (k : ℕ) (e : Event) → IsStrangersAsk journal k e → came_by_frame e.ask ≡ true → is_proper e.ask ≡ true
      → shown_of e.decision ≡ stranger_verdict setup.requests (told_in (take k journal) e.session) e.ask
