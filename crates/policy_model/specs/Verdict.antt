-- Believed: the verdict on an ask, by all events before it: the first rule that applies. Rules 9 to 11 stand in older
-- logs alone. A definition stands below those that it uses, so read from the last section up:
--   1. an opening: rule 6 if the worker has an open session, otherwise a new one's number; an end: rule 6 if it has
--      none (`verdict_of`)
--   2. any other ask: rule 6 without a session or in one that is over, rule 1 once all asks are made
--      (`request_verdict`)
--   3. a frame that is no request: its own rule, 2 to 5; a request: by the table, rules 6 and 7 (`own_verdict`,
--      `row_verdict`)
--   4. CHALLENGE: rule 8; a decoy for who can't log in; rule 12; otherwise the next password's number
--      (`challenge_verdict`)
--   5. REPLY: to a decoy rules 14 and 16, otherwise rules 13 and 14, the next password, rules 15 and 16
--      (`reply_verdict`)
--   6. READ and WRITE: rules 17 and 18; OPEN: rules 19 to 21; CLOSE: rule 17; INFO: rule 22; all else: a permit
--      (`kind_verdict`)
use Rattle.std.specs.Prelude.{ℕ, ◌≤◌, ◌+◌, ◌-◌, ◌==◌, ◌&&◌, ◌||◌, Bool, false, not, List, [], ◌++◌, length, Option}
use Rattle.std.specs.Prelude.{Some, None, is_none, nat_eq, nat_le, nat_lt, unwrap_or, bit_and, if◌then◌else◌}
use Rattle.std.specs.List.{find, list_any}
use Rattle.std.specs.Option.{option_and_then, option_map_or, option_to_list}
use Rattle.request_catalogue.specs.declared.kind.Kind.{Kind}
use Rattle.request_catalogue.specs.declared.rules.TheConstants.{ASKS_SPENT, NOT_IN_PHASE, ONCE_ONLY, TRIES_SPENT}
use Rattle.request_catalogue.specs.declared.rules.TheConstants.{USER_HELD, HOLD_LOST, NO_READING, PASSWORD_USED}
use Rattle.request_catalogue.specs.declared.rules.TheConstants.{NO_MATCH, NO_HANDLE, MODE_LACKING, HANDLES_SPENT}
use Rattle.request_catalogue.specs.declared.rules.TheConstants.{NOT_GRANTED, MODE_NOT_GRANTED, NO_INFORMATION}
use Rattle.request_catalogue.specs.declared.texts.Label.{Label}
use Rattle.request_catalogue.specs.declared.texts.Name.{Name}
use Rattle.otp_hash.specs.Hashing.{hash_of}
use Rattle.policy_model.specs.declared.account.Account.{Account}
use Rattle.policy_model.specs.declared.account.Grant.{Grant}
use Rattle.policy_model.specs.declared.event.Ask.{Ask}
use Rattle.policy_model.specs.declared.event.Ask.TheVariants as asks
use Rattle.policy_model.specs.declared.event.Decision.{Decision}
use Rattle.policy_model.specs.declared.event.Decision.TheVariants.{Permit, Deny, Lost}
use Rattle.policy_model.specs.declared.event.Event.{Event}
use Rattle.policy_model.specs.declared.phase.Row.{Row}
use Rattle.policy_model.specs.declared.reading.TheConstants.{DECOYS_FROM}
use Rattle.policy_model.specs.declared.verdict.TheConstants.{READ, WRITE}
use Rattle.policy_model.specs.Asks.{is_denied_reply, kind_of, mode_of, moment_of, permits_kind, request_number}
use Rattle.policy_model.specs.Decoys.{decoy_number}
use Rattle.policy_model.specs.Handles.{free_handle_of, live_handles_of, handle_opening}
use Rattle.policy_model.specs.Journal.{ask_count, count_of, has_event, open_session_of, openings_of}
use Rattle.policy_model.specs.Logins.{account_of, challenged_user, current_password, current_sequence, holder_of}
use Rattle.policy_model.specs.Logins.{is_live, last_taking_of, session_taking, verified_account, verified_user}
use Rattle.policy_model.specs.Logins.{was_accepted, was_decoyed}
use Rattle.policy_model.specs.Phases.{is_over, phase_of, table_row}
use Rattle.policy_model.specs.Settings.{Settings, account_number, same_label}

-- 4. CHALLENGE

-- another session holds the user, and took it less than the hold ago
abbrev pub is_held : Settings → List Event → ℕ → Name → ℕ → Bool
is_held setup journal session user now =
    option_map_or (λ holder. not (holder == session)) (holder_of journal user) false
    && nat_lt now (option_map_or (λ e. moment_of e.ask) (last_taking_of journal user) 0 + setup.hold)

-- the permit for a user who can't log in: 10,000 and the decoy's number
abbrev pub decoy_challenge : Settings → Name → Decision
decoy_challenge setup user = Permit (DECOYS_FROM + decoy_number setup user)

-- the number of the next password for who can log in; rule 12 while another session holds the user; a decoy for others
abbrev pub account_verdict : Settings → List Event → ℕ → Name → ℕ → Option Account → Decision
account_verdict setup journal session user now None = decoy_challenge setup user
account_verdict setup journal session user now (Some account) =
    if not (is_live journal account) then decoy_challenge setup user
    else (if is_held setup journal session user now then Deny USER_HELD (session_taking (last_taking_of journal user))
    else Permit (current_sequence journal account - 1))

-- a CHALLENGE: rule 8 once the session has had as many replies denied as the setup allows tries
unfoldable pub challenge_verdict : Settings → List Event → ℕ → Name → ℕ → Decision
challenge_verdict setup journal session user now =
    if nat_le setup.tries (count_of journal session is_denied_reply) then Deny TRIES_SPENT setup.tries
    else account_verdict setup journal session user now (account_of setup user)

-- 5. REPLY

-- the readings of a reply, the one in words before the hexadecimal one
abbrev pub readings : Option ℕ → Option ℕ → List ℕ
readings words hex = option_to_list words ++ option_to_list hex

-- a password hashes to the account's current one and wasn't accepted before
abbrev pub is_next_password : List Event → Account → ℕ → Bool
is_next_password journal account password =
    hash_of account.algo password == current_password journal account && not (was_accepted journal account password)

-- the first reading that is the next password is permitted; else rule 15 if one was accepted before, 16 if none
abbrev pub passwords_verdict : List Event → List ℕ → Account → Decision
passwords_verdict journal passwords account =
    option_map_or Permit (find (is_next_password journal account) passwords)
    (if list_any (was_accepted journal account) passwords then Deny PASSWORD_USED 0 else Deny NO_MATCH 0)

-- a REPLY for a user: rule 13 if its session doesn't hold the user, 14 without a reading, otherwise by the readings
abbrev pub user_verdict : Settings → List Event → ℕ → List ℕ → Name → Decision
user_verdict setup journal session passwords user =
    if not (option_map_or (λ holder. holder == session) (holder_of journal user) false)
    then Deny HOLD_LOST (session_taking (last_taking_of journal user))
    else (if length passwords == 0 then Deny NO_READING 0
    else option_map_or (passwords_verdict journal passwords) (account_of setup user) (Deny NO_MATCH 0))

-- a REPLY to a decoy is always denied: by rule 14 without a reading, otherwise by rule 16
abbrev pub decoy_verdict : List ℕ → Decision
decoy_verdict passwords = if length passwords == 0 then Deny NO_READING 0 else Deny NO_MATCH 0

-- a REPLY with its two readings, to a decoy or to a user; rule 13 if its session challenged nobody
unfoldable pub reply_verdict : Settings → List Event → ℕ → Option ℕ → Option ℕ → Decision
reply_verdict setup journal session words hex =
    if was_decoyed journal session then decoy_verdict (readings words hex)
    else option_map_or (user_verdict setup journal session (readings words hex)) (challenged_user journal session)
    (Deny HOLD_LOST 0)

-- 6. what a session that is logged in asks

-- a mode has all that is needed: 1 to read, 2 to write, 3 for both
abbrev pub allows : ℕ → ℕ → Bool
allows mode needed = bit_and needed mode == needed

-- a READ or WRITE: rule 17 if the handle isn't open, 18 if its mode isn't enough; handle 0, the client, is permitted
unfoldable pub handle_verdict : List Event → ℕ → ℕ → ℕ → Decision
handle_verdict journal session handle needed =
    if handle == 0 then Permit 0
    else option_map_or (λ e. if allows (mode_of e.ask) needed then Permit 0 else Deny MODE_LACKING handle)
    (handle_opening journal session handle) (Deny NO_HANDLE handle)

-- the logged-in user's grant for a file, if there is one
abbrev pub granted : Settings → List Event → ℕ → Label → Option Grant
granted setup journal session name =
    find (λ g. same_label g.name name) (option_map_or (λ a. a.grants) (verified_account setup journal session) [])

-- an OPEN: rule 19 if eight handles are open, 20 without a grant, 21 beyond its mode; otherwise the least free handle
unfoldable pub open_verdict : Settings → List Event → ℕ → ℕ → Label → Decision
open_verdict setup journal session mode name =
    if nat_le 8 (length (live_handles_of journal session)) then Deny HANDLES_SPENT 8
    else option_map_or (λ grant. if allows grant.mode mode then Permit (free_handle_of journal session)
    else Deny MODE_NOT_GRANTED mode) (granted setup journal session name) (Deny NOT_GRANTED 0)

-- a CLOSE: permitted for an open handle, otherwise rule 17, also for handle 0
unfoldable pub close_verdict : List Event → ℕ → ℕ → Decision
close_verdict journal session handle =
    if handle == 0 || is_none (handle_opening journal session handle) then Deny NO_HANDLE handle else Permit 0

-- an INFO: the user's current sequence, or rule 22 if the setup doesn't have the number
unfoldable pub info_verdict : Settings → List Event → ℕ → ℕ → Decision
info_verdict setup journal session number =
    if list_any (nat_eq number) setup.info
    then Permit (option_map_or (current_sequence journal) (verified_account setup journal session) 0)
    else Deny NO_INFORMATION number

-- the rules of each kind of request; an EXPORT is permitted with the number of the user's account
unfoldable pub kind_verdict : Settings → List Event → ℕ → Ask → Decision
kind_verdict setup journal session (asks.Challenge user now) = challenge_verdict setup journal session user now
kind_verdict setup journal session (asks.Reply words hex) = reply_verdict setup journal session words hex
kind_verdict setup journal session (asks.Export len) =
    Permit (unwrap_or (option_and_then (account_number setup) (verified_user journal session)) 0)
kind_verdict setup journal session (asks.ReadAt handle offset max) = handle_verdict journal session handle READ
kind_verdict setup journal session (asks.WriteAt handle offset len) = handle_verdict journal session handle WRITE
kind_verdict setup journal session (asks.OpenFile mode name) = open_verdict setup journal session mode name
kind_verdict setup journal session (asks.CloseFile handle) = close_verdict journal session handle
kind_verdict setup journal session (asks.Info number) = info_verdict setup journal session number
kind_verdict setup journal session ask = Permit 0

-- 3. the table

-- a request by its cell of the phase table: rule 6 if it is empty, rule 7 for a second one that may be only once
abbrev pub row_verdict : Settings → List Event → ℕ → Ask → Kind → Row → Decision
row_verdict setup journal session ask kind row =
    if not row.permitted then Deny NOT_IN_PHASE (request_number ask)
    else (if row.once && has_event journal session (permits_kind kind) then Deny ONCE_ONLY (request_number ask)
    else kind_verdict setup journal session ask)

-- an ask that may still be made: a bad frame breaks its own rule, a request goes by the session's phase
abbrev pub own_verdict : Settings → List Event → ℕ → Ask → Decision
own_verdict setup journal session (asks.Bad rule detail) = Deny rule detail
own_verdict setup journal session ask =
    option_map_or (λ kind. row_verdict setup journal session ask kind (table_row (phase_of journal session) kind))
    (kind_of ask) (Permit 0)

-- 2. any other ask

-- a child's ask: rule 6 without an open session or in one that is over, rule 1 once the session made all its asks
abbrev pub request_verdict : Settings → List Event → ℕ → Ask → Decision
request_verdict setup journal session ask =
    if session == 0 || is_over journal session then Deny NOT_IN_PHASE (request_number ask)
    else (if ask_count journal session == setup.requests then Deny ASKS_SPENT setup.requests
    else own_verdict setup journal session ask)

-- 1. an opening, an end, any other ask

-- the policy's verdict on what a worker asks after these events: the first rule that applies, otherwise a permit
unfoldable pub verdict_of : Settings → List Event → ℕ → Ask → Decision
verdict_of setup journal worker asks.Begin =
    if open_session_of journal worker == 0 then Permit (openings_of journal + 1) else Deny NOT_IN_PHASE 0
verdict_of setup journal worker (asks.End why) =
    if open_session_of journal worker == 0 then Deny NOT_IN_PHASE 0 else Permit 0
verdict_of setup journal worker ask = request_verdict setup journal (open_session_of journal worker) ask

-- a denial names one of the rules
abbrev pub NamesRule : Decision → Type 0
NamesRule (Deny rule detail) = (1 ≤ rule) × (rule ≤ 22)
NamesRule _ = Unit {0}

-- something was decided, and a denial names one of the rules
abbrev pub IsVerdict : Decision → Type 0
IsVerdict (Permit value) = Unit {0}
IsVerdict (Deny rule detail) = (1 ≤ rule) × (rule ≤ 22)
IsVerdict Lost = ⊥
