-- Believed: who takes and holds a user, and which passwords were accepted.
use Rattle.std.specs.Prelude.{ℕ, Bool, false, ◌||◌, ◌&&◌, ◌-◌, List, ◌∷◌, length, filter, Option, Some, None, nat_eq}
use Rattle.std.specs.Prelude.{nat_le, not, ◌==◌, unwrap_or, if◌then◌else◌}
use Rattle.std.specs.List.{after_last, filter_map, find, last_or, list_any}
use Rattle.std.specs.Option.{option_and_then, option_map_or}
use Rattle.request_catalogue.specs.declared.texts.Name.{Name}
use Rattle.policy_model.specs.declared.account.Account.{Account}
use Rattle.policy_model.specs.declared.event.Event.{Event}
use Rattle.policy_model.specs.declared.reading.TheConstants.{DECOYS_FROM}
use Rattle.policy_model.specs.Asks.{accepts, challenge_name, gives_up, is_user, reserves, takes, value_of}
use Rattle.policy_model.specs.Journal.{Place, is_own, last_event, places_of}
use Rattle.policy_model.specs.Phases.{is_over}
use Rattle.policy_model.specs.Settings.{Settings, same_name}

-- the setup's account of this user
abbrev pub account_of : Settings → Name → Option Account
account_of setup user = find (λ a. same_name a.name user) setup.accounts

-- the user of a session's last permitted CHALLENGE
unfoldable pub challenged_user : List Event → ℕ → Option Name
challenged_user journal session = option_and_then (λ e. challenge_name e.ask) (last_event journal session takes)

-- the session's last permitted CHALLENGE names a decoy
unfoldable pub was_decoyed : List Event → ℕ → Bool
was_decoyed journal session =
    option_map_or (λ e. nat_le DECOYS_FROM (value_of e.decision)) (last_event journal session takes) false

-- the user that a session is logged in as: that of its last permitted CHALLENGE before its permitted REPLY
unfoldable pub verified_user : List Event → ℕ → Option Name
verified_user journal session =
    option_and_then (λ place. challenged_user place.before session)
    (last_or None (filter (λ place. is_own session accepts place.event) (places_of journal)))

-- the account that a session is logged in as
abbrev pub verified_account : Settings → List Event → ℕ → Option Account
verified_account setup journal session = option_and_then (account_of setup) (verified_user journal session)

-- the last taking of a user: its last permitted CHALLENGE that isn't a decoy, of any session
unfoldable pub last_taking_of : List Event → Name → Option Event
last_taking_of journal user = last_or None (filter (reserves user) journal)

-- the session of a taking, and 0 where there is none
abbrev pub session_taking : Option Event → ℕ
session_taking taking = option_map_or (λ e. e.session) taking 0

-- since a user's last taking, the session that took it has sent a REPLY or had an ABANDON permitted
unfoldable pub was_given_up : List Event → Name → Bool
was_given_up journal user =
    list_any (is_own (session_taking (last_taking_of journal user)) gives_up) (after_last (reserves user) journal)

-- the session that holds a user: the last to take it, unless it has since sent a REPLY, been let ABANDON, or is over
unfoldable pub holder_of : List Event → Name → Option ℕ
holder_of journal user =
    option_and_then (λ e. if was_given_up journal user || is_over journal e.session then None else Some e.session)
    (last_taking_of journal user)

-- the password of a permitted REPLY, if its session's last permitted CHALLENGE before it was for this user
abbrev pub reply_for : Name → Place → Option ℕ
reply_for user place =
    if accepts place.event && is_user user (challenged_user place.before place.event.session)
    then Some (value_of place.event.decision) else None

-- the passwords of a user's permitted replies, in order
unfoldable pub replies_of : List Event → Name → List ℕ
replies_of journal user = filter_map (reply_for user) (places_of journal)

-- the accepted passwords of an account: the one in the setup, then those of its permitted replies
abbrev pub accepted_of : List Event → Account → List ℕ
accepted_of journal account = account.password ∷ replies_of journal account.name

-- the current password of an account: the one accepted last
abbrev pub current_password : List Event → Account → ℕ
current_password journal account = unwrap_or (last_or None (accepted_of journal account)) 0

-- how many passwords an account's chain has left: the setup's number less one for each permitted reply
abbrev pub current_sequence : List Event → Account → ℕ
current_sequence journal account = account.sequence - length (replies_of journal account.name)

-- an account with the sequence and the password that a journal leaves it
abbrev pub account_after : List Event → Account → Account
account_after journal account =
    record account { sequence = current_sequence journal account; password = current_password journal account }

-- a password of this account was accepted before, or is the one in the setup
abbrev pub was_accepted : List Event → Account → ℕ → Bool
was_accepted journal account password = list_any (nat_eq password) (accepted_of journal account)

-- an account can log in: it is enabled, and its chain has a password left
abbrev pub is_live : List Event → Account → Bool
is_live journal account = account.enabled && not (current_sequence journal account == 0)
