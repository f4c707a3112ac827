-- Inner: names for the lemmas, of single requests and of what may be missing.
use Rattle.std.specs.Prelude.{ℕ, Bool, false, not, ◌||◌, ◌==◌, List, [], Option, Some, None, nat_le, unwrap_or}
use Rattle.std.specs.Prelude.{if◌then◌else◌}
use Rattle.std.specs.List.{list_any}
use Rattle.std.specs.Option.{option_and_then, option_map_or}
use Rattle.request_catalogue.specs.declared.kind.Kind.{Kind}
use Rattle.request_catalogue.specs.declared.kind.Kind.TheVariants as kinds
use Rattle.request_catalogue.specs.declared.rules.TheConstants.{HOLD_LOST, PASSWORD_USED, NO_MATCH, NO_HANDLE}
use Rattle.request_catalogue.specs.declared.rules.TheConstants.{MODE_LACKING, NOT_GRANTED, MODE_NOT_GRANTED}
use Rattle.request_catalogue.specs.declared.texts.Name.{Name}
use Rattle.request_catalogue.specs.Kinds.{kind_number}
use Rattle.policy_model.specs.declared.account.Account.{Account}
use Rattle.policy_model.specs.declared.account.Grant.{Grant}
use Rattle.policy_model.specs.declared.event.Ask.{Ask}
use Rattle.policy_model.specs.declared.event.Ask.TheVariants as asks
use Rattle.policy_model.specs.declared.event.Decision.{Decision}
use Rattle.policy_model.specs.declared.event.Decision.TheVariants.{Permit, Deny}
use Rattle.policy_model.specs.declared.event.Event.{Event}
use Rattle.policy_model.specs.declared.event.Why.{Why}
use Rattle.policy_model.specs.declared.reading.TheConstants.{DECOYS_FROM}
use Rattle.policy_model.specs.Asks.{challenge_name, is_begin, is_kind, is_proper, is_user, mode_of, moment_of, takes}
use Rattle.policy_model.specs.Asks.{value_of}
use Rattle.policy_model.specs.Journal.{Place, is_turn_of}
use Rattle.policy_model.specs.Logins.{account_of, challenged_user, current_sequence, was_accepted}
use Rattle.policy_model.specs.Phases.{is_over, phase_of, table_row}
use Rattle.policy_model.specs.Settings.{Settings, account_number}
use Rattle.policy_model.specs.Verdict.{allows, passwords_verdict, row_verdict, user_verdict}

abbrev pub is_proper_why : Why → Bool
is_proper_why why = is_proper (asks.End why)

abbrev pub handle_of : Event → ℕ
handle_of e = value_of e.decision

abbrev pub is_reply : Ask → Bool
is_reply ask = is_kind kinds.Reply ask

abbrev pub is_abandon : Ask → Bool
is_abandon ask = is_kind kinds.Abandon ask

abbrev pub is_export : Ask → Bool
is_export ask = is_kind kinds.Export ask

abbrev pub is_open : Ask → Bool
is_open ask = is_kind kinds.OpenFile ask

abbrev pub is_finish : Ask → Bool
is_finish ask = is_kind kinds.Finish ask

abbrev pub is_challenge_for : Name → Ask → Bool
is_challenge_for user ask = is_user user (challenge_name ask)

abbrev pub number_of_kind : Option Kind → ℕ
number_of_kind kind = option_map_or kind_number kind 0

abbrev pub session_opened : Option Event → ℕ
session_opened turn = option_map_or (λ e. if is_begin e.ask then e.session else 0) turn 0

-- what an event makes of the worker's open session
abbrev pub opened_after : ℕ → ℕ → Event → ℕ
opened_after worker session e = if is_turn_of worker e then session_opened (Some e) else session

abbrev pub is_taking : Option Event → Bool
is_taking step = option_map_or takes step false

abbrev pub user_named : Option Event → Option Name
user_named taking = option_and_then (λ e. challenge_name e.ask) taking

abbrev pub is_decoy : Option Event → Bool
is_decoy taking = option_map_or (λ e. nat_le DECOYS_FROM (value_of e.decision)) taking false

abbrev pub user_before : ℕ → Option Place → Option Name
user_before session found = option_and_then (λ place. challenged_user place.before session) found

abbrev pub holder_by : List Event → Bool → Option Event → Option ℕ
holder_by journal given_up taking =
    option_and_then (λ e. if given_up || is_over journal e.session then None else Some e.session) taking

abbrev pub is_holder : ℕ → Option ℕ → Bool
is_holder session found = option_map_or (λ holder. holder == session) found false

abbrev pub is_other : ℕ → Option ℕ → Bool
is_other session found = option_map_or (λ holder. not (holder == session)) found false

abbrev pub taking_moment : Option Event → ℕ
taking_moment taking = option_map_or (λ e. moment_of e.ask) taking 0

abbrev pub account_named : Settings → Option Name → Option Account
account_named setup user = option_and_then (account_of setup) user

abbrev pub number_named : Settings → Option Name → ℕ
number_named setup user = unwrap_or (option_and_then (account_number setup) user) 0

abbrev pub grants_of : Option Account → List Grant
grants_of account = option_map_or (λ a. a.grants) account []

abbrev pub sequence_of : List Event → Option Account → ℕ
sequence_of journal account = option_map_or (current_sequence journal) account 0

abbrev pub refused_verdict : List Event → Account → List ℕ → Decision
refused_verdict journal account passwords =
    if list_any (was_accepted journal account) passwords then Deny PASSWORD_USED 0 else Deny NO_MATCH 0

abbrev pub matching_verdict : List Event → Account → List ℕ → Option ℕ → Decision
matching_verdict journal account passwords found =
    option_map_or Permit found (refused_verdict journal account passwords)

abbrev pub readings_verdict : List Event → List ℕ → Option Account → Decision
readings_verdict journal passwords account =
    option_map_or (passwords_verdict journal passwords) account (Deny NO_MATCH 0)

abbrev pub login_verdict : Settings → List Event → ℕ → List ℕ → Option Name → Decision
login_verdict setup journal session passwords user =
    option_map_or (user_verdict setup journal session passwords) user (Deny HOLD_LOST 0)

abbrev pub use_verdict : ℕ → ℕ → Option Event → Decision
use_verdict handle needed opening =
    option_map_or (λ e. if allows (mode_of e.ask) needed then Permit 0 else Deny MODE_LACKING handle) opening
    (Deny NO_HANDLE handle)

abbrev pub grant_verdict : ℕ → ℕ → Option Grant → Decision
grant_verdict free mode found =
    option_map_or (λ grant. if allows grant.mode mode then Permit free else Deny MODE_NOT_GRANTED mode) found
    (Deny NOT_GRANTED 0)

abbrev pub table_verdict : Settings → List Event → ℕ → Ask → Option Kind → Decision
table_verdict setup journal session ask kind =
    option_map_or (λ k. row_verdict setup journal session ask k (table_row (phase_of journal session) k)) kind
    (Permit 0)
