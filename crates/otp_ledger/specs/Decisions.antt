-- Inner: what a ledger decides on CHALLENGE and REPLY.
use Rattle.std.specs.Prelude.{ℕ, ◌+◌, ◌-◌, nat_lt, Bool, not, ◌&&◌, ◌==◌, List, length, Option, Some, None}
use Rattle.std.specs.Prelude.{if◌then◌else◌}
use Rattle.std.specs.List.{find, list_any}
use Rattle.std.specs.Option.{option_map_or}
use Rattle.otp_hash.specs.Hashing.{hash_of}
use Rattle.request_catalogue.specs.declared.rules.TheConstants.{USER_HELD, HOLD_LOST, NO_READING, PASSWORD_USED}
use Rattle.request_catalogue.specs.declared.rules.TheConstants.{NO_MATCH}
use Rattle.request_catalogue.specs.declared.texts.Name.{Name}
use Rattle.policy_model.specs.declared.event.Decision.{Decision}
use Rattle.policy_model.specs.declared.event.Decision.TheVariants.{Permit, Deny}
use Rattle.policy_model.specs.Settings.{Settings, account_number}
use Rattle.policy_model.specs.Verdict.{decoy_challenge}
use Rattle.policy_model.specs.Cases.{is_holder, is_other}
use Rattle.otp_ledger.specs.Accounts.{AccountState, IsNextPassword, LedgerParts, current_of, state_at, was_accepted}

-- a CHALLENGE for the user of an account who can log in
abbrev pub live_decision : Settings → ℕ → ℕ → AccountState → Decision
live_decision setup session now state =
    if is_other session state.holder && nat_lt now (state.moment + setup.hold) then Deny USER_HELD state.taker
    else Permit (state.sequence - 1)

-- a CHALLENGE for the user of an account
abbrev pub state_decision : Settings → Name → ℕ → ℕ → AccountState → Decision
state_decision setup user session now state =
    if not (state.enabled && not (state.sequence == 0)) then decoy_challenge setup user
    else live_decision setup session now state

abbrev pub numbered_decision : LedgerParts → Name → ℕ → ℕ → Option ℕ → Decision
numbered_decision l user session now None = decoy_challenge l.setup user
numbered_decision l user session now (Some account) = state_decision l.setup user session now (state_at l account)

-- a CHALLENGE of a session for a user at a moment
abbrev pub challenge_decision : LedgerParts → Name → ℕ → ℕ → Decision
challenge_decision l user session now = numbered_decision l user session now (account_number l.setup user)

-- a password hashes to the current one, and wasn't accepted before
abbrev pub is_next : AccountState → ℕ → Bool
is_next state password = hash_of state.algo password == current_of state && not (was_accepted state password)

abbrev pub refused : AccountState → List ℕ → Decision
refused state passwords = if list_any (was_accepted state) passwords then Deny PASSWORD_USED 0 else Deny NO_MATCH 0

abbrev pub matched : AccountState → List ℕ → Option ℕ → Decision
matched state passwords found = option_map_or Permit found (refused state passwords)

-- the readings against an account: the first that is the next password
abbrev pub readings_decision : AccountState → List ℕ → Decision
readings_decision state passwords = matched state passwords (find (is_next state) passwords)

-- a REPLY of a session for the user of an account, with its readings
abbrev pub reply_decision : AccountState → ℕ → List ℕ → Decision
reply_decision state session passwords =
    if not (is_holder session state.holder) then Deny HOLD_LOST state.taker
    else (if length passwords == 0 then Deny NO_READING 0
    else readings_decision state passwords)

-- what is permitted is a password that may be spent
abbrev pub PermitsNext : AccountState → Decision → Type 0
PermitsNext state (Permit password) = IsNextPassword state password
PermitsNext state _ = Unit {0}
