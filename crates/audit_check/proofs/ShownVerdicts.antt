-- Over what is shown of events the policy gives the same verdict.
use Rattle.std.proofs.Common.{◌≡◌, ℕ, ◌+◌, ◌-◌, not, ◌&&◌, ◌||◌, cond, eqb, nat_eq, nat_le, nat_lt, List, [], ◌∷◌, length, map, Option, Some, None, refl, ap, ◌∙◌}
use Rattle.std.specs.Prelude.{is_none, option_map, unwrap_or}
use Rattle.std.specs.List.{find, last_or, list_any}
use Rattle.std.proofs.lemmas.List.{length-map}
use Rattle.request_catalogue.specs.declared.kind.Kind.{Kind}
use Rattle.request_catalogue.specs.declared.texts.Label.{Label}
use Rattle.request_catalogue.specs.declared.texts.Name.{Name}
use Rattle.otp_hash.specs.Hashing.{hash_of}
use Rattle.policy_model.specs.declared.account.Account.{Account}
use Rattle.policy_model.specs.declared.event.Ask.{Ask}
use Rattle.policy_model.specs.declared.event.Ask.TheVariants as asks
use Rattle.policy_model.specs.declared.event.Decision.{Decision}
use Rattle.policy_model.specs.declared.event.Decision.TheVariants.{Permit, Deny, Lost}
use Rattle.policy_model.specs.declared.event.Event.{Event}
use Rattle.policy_model.specs.declared.phase.Row.{Row}
use Rattle.policy_model.specs.Asks.{is_denied_reply, kind_of, permits_kind, request_number}
use Rattle.policy_model.specs.Handles.{free_handle_of, handle_opening, live_handles_of}
use Rattle.policy_model.specs.Journal.{ask_count, count_of, has_event, open_session_of, openings_of}
use Rattle.policy_model.specs.Legal.{session_of}
use Rattle.policy_model.specs.Logins.{account_of, challenged_user, current_password, current_sequence, holder_of, is_live, last_taking_of, session_taking, verified_user, was_accepted, was_decoyed}
use Rattle.policy_model.specs.Phases.{is_over, phase_of, table_row}
use Rattle.policy_model.specs.Settings.{Settings, same_label}
use Rattle.policy_model.specs.Verdict.{account_verdict, allows, challenge_verdict, close_verdict, decoy_challenge, decoy_verdict, handle_verdict, info_verdict, is_held, is_next_password, kind_verdict, open_verdict, own_verdict, readings, reply_verdict, request_verdict, row_verdict, verdict_of}
use Rattle.policy_model.specs.Cases.{account_named, grant_verdict, grants_of, is_holder, is_other, login_verdict, matching_verdict, number_named, readings_verdict, sequence_of, table_verdict, taking_moment, use_verdict}
use Rattle.audit_check.proofs.Shown.{asked_same, challenged_same, count_same, decoyed_same, denied_same, free_same, has_same, holder_same, kind_same, last_taking_same, live_same, mode_plain, moment_plain, none_same, open_same, opening_same, openings_same, over_same, phase_same, plain, replies_same, taker_same, verified_same}

pub sequence_same : (xs : List Event) (account : Account) → current_sequence (map plain xs) account ≡ current_sequence xs account
sequence_same xs account = ap (λ r. account.sequence - length r) (replies_same xs account.name)

live_account_same : (xs : List Event) (account : Account) → is_live (map plain xs) account ≡ is_live xs account
live_account_same xs account = ap (λ n. account.enabled && not (eqb n 0)) (sequence_same xs account)

pub password_same : (xs : List Event) (account : Account) → current_password (map plain xs) account ≡ current_password xs account
password_same xs account = ap (λ r. unwrap_or (last_or None (account.password ∷ r)) 0) (replies_same xs account.name)

pub used_same : (xs : List Event) (account : Account) (password : ℕ) → was_accepted (map plain xs) account password ≡ was_accepted xs account password
used_same xs account password = ap (λ r. list_any (nat_eq password) (account.password ∷ r)) (replies_same xs account.name)

pub next_same : (xs : List Event) (account : Account) (password : ℕ) → is_next_password (map plain xs) account password ≡ is_next_password xs account password
next_same xs account password =
    ap (λ n. eqb (hash_of account.algo password) n && not (was_accepted (map plain xs) account password)) (password_same xs account)
    ∙ ap (λ b. eqb (hash_of account.algo password) (current_password xs account) && not b) (used_same xs account password)

moment_same : (o : Option Event) → taking_moment (option_map plain o) ≡ taking_moment o
moment_same None = refl
moment_same (Some e) = moment_plain e.ask

held_same : (setup : Settings) (xs : List Event) (session : ℕ) (user : Name) (now : ℕ) → is_held setup (map plain xs) session user now ≡ is_held setup xs session user now
held_same setup xs session user now =
    ap (λ h. is_other session h && nat_lt now (taking_moment (last_taking_of (map plain xs) user) + setup.hold)) (holder_same xs user)
    ∙ ap (λ n. is_other session (holder_of xs user) && nat_lt now (n + setup.hold)) (ap taking_moment (last_taking_same xs user) ∙ moment_same (last_taking_of xs user))

account_same : (setup : Settings) (xs : List Event) (session : ℕ) (user : Name) (now : ℕ) (account : Option Account) → account_verdict setup (map plain xs) session user now account ≡ account_verdict setup xs session user now account
account_same setup xs session user now None = refl
account_same setup xs session user now (Some account) =
    ap (λ b. cond (not b) (decoy_challenge setup user) (cond (is_held setup (map plain xs) session user now) (Deny 12 (session_taking (last_taking_of (map plain xs) user))) (Permit (current_sequence (map plain xs) account - 1)))) (live_account_same xs account)
    ∙ ap (λ b. cond (not (is_live xs account)) (decoy_challenge setup user) (cond b (Deny 12 (session_taking (last_taking_of (map plain xs) user))) (Permit (current_sequence (map plain xs) account - 1)))) (held_same setup xs session user now)
    ∙ ap (λ n. cond (not (is_live xs account)) (decoy_challenge setup user) (cond (is_held setup xs session user now) (Deny 12 n) (Permit (current_sequence (map plain xs) account - 1)))) (taker_same xs user)
    ∙ ap (λ n. cond (not (is_live xs account)) (decoy_challenge setup user) (cond (is_held setup xs session user now) (Deny 12 (session_taking (last_taking_of xs user))) (Permit (n - 1)))) (sequence_same xs account)

challenge_same : (setup : Settings) (xs : List Event) (session : ℕ) (user : Name) (now : ℕ) → challenge_verdict setup (map plain xs) session user now ≡ challenge_verdict setup xs session user now
unfolding challenge_verdict
challenge_same setup xs session user now =
    ap (λ n. cond (nat_le setup.tries n) (Deny 8 setup.tries) (account_verdict setup (map plain xs) session user now (account_of setup user))) (count_same xs session is_denied_reply denied_same)
    ∙ ap (λ d. cond (nat_le setup.tries (count_of xs session is_denied_reply)) (Deny 8 setup.tries) d) (account_same setup xs session user now (account_of setup user))

find_next : (xs : List Event) (account : Account) (passwords : List ℕ) → find (is_next_password (map plain xs) account) passwords ≡ find (is_next_password xs account) passwords
find_next xs account [] = refl
find_next xs account (p ∷ ps) =
    ap (λ b. cond b (Some p) (find (is_next_password (map plain xs) account) ps)) (next_same xs account p)
    ∙ ap (λ o. cond (is_next_password xs account p) (Some p) o) (find_next xs account ps)

any_used : (xs : List Event) (account : Account) (passwords : List ℕ) → list_any (was_accepted (map plain xs) account) passwords ≡ list_any (was_accepted xs account) passwords
any_used xs account [] = refl
any_used xs account (p ∷ ps) = ap (λ b. b || list_any (was_accepted (map plain xs) account) ps) (used_same xs account p) ∙ ap (λ b. was_accepted xs account p || b) (any_used xs account ps)

pub readings_same : (xs : List Event) (passwords : List ℕ) (account : Option Account) → readings_verdict (map plain xs) passwords account ≡ readings_verdict xs passwords account
readings_same xs passwords None = refl
readings_same xs passwords (Some account) = ap (matching_verdict (map plain xs) account passwords) (find_next xs account passwords) ∙ go (find (is_next_password xs account) passwords) where
  go : (o : Option ℕ) → matching_verdict (map plain xs) account passwords o ≡ matching_verdict xs account passwords o
  go (Some p) = refl
  go None = ap (λ b. cond b (Deny 15 0) (Deny 16 0)) (any_used xs account passwords)

user_same : (setup : Settings) (xs : List Event) (session : ℕ) (passwords : List ℕ) (user : Option Name) → login_verdict setup (map plain xs) session passwords user ≡ login_verdict setup xs session passwords user
user_same setup xs session passwords None = refl
user_same setup xs session passwords (Some user) =
    ap (λ h. cond (not (is_holder session h)) (Deny 13 (session_taking (last_taking_of (map plain xs) user))) (cond (eqb (length passwords) 0) (Deny 14 0) (readings_verdict (map plain xs) passwords (account_of setup user)))) (holder_same xs user)
    ∙ ap (λ n. cond (not (is_holder session (holder_of xs user))) (Deny 13 n) (cond (eqb (length passwords) 0) (Deny 14 0) (readings_verdict (map plain xs) passwords (account_of setup user)))) (taker_same xs user)
    ∙ ap (λ d. cond (not (is_holder session (holder_of xs user))) (Deny 13 (session_taking (last_taking_of xs user))) (cond (eqb (length passwords) 0) (Deny 14 0) d)) (readings_same xs passwords (account_of setup user))

reply_same : (setup : Settings) (xs : List Event) (session : ℕ) (words hex : Option ℕ) → reply_verdict setup (map plain xs) session words hex ≡ reply_verdict setup xs session words hex
unfolding reply_verdict
reply_same setup xs session words hex =
    ap (λ b. cond b (decoy_verdict (readings words hex)) (login_verdict setup (map plain xs) session (readings words hex) (challenged_user (map plain xs) session))) (decoyed_same xs session)
    ∙ ap (λ u. cond (was_decoyed xs session) (decoy_verdict (readings words hex)) (login_verdict setup (map plain xs) session (readings words hex) u)) (challenged_same xs session)
    ∙ ap (λ d. cond (was_decoyed xs session) (decoy_verdict (readings words hex)) d) (user_same setup xs session (readings words hex) (challenged_user xs session))

use_same : (handle needed : ℕ) (o : Option Event) → use_verdict handle needed (option_map plain o) ≡ use_verdict handle needed o
use_same handle needed None = refl
use_same handle needed (Some e) = ap (λ m. cond (allows m needed) (Permit 0) (Deny 18 handle)) (mode_plain e.ask)

handle_verdict_same : (xs : List Event) (session handle needed : ℕ) → handle_verdict (map plain xs) session handle needed ≡ handle_verdict xs session handle needed
unfolding handle_verdict
handle_verdict_same xs session handle needed =
    ap (λ o. cond (eqb handle 0) (Permit 0) (use_verdict handle needed o)) (opening_same xs session handle)
    ∙ ap (λ d. cond (eqb handle 0) (Permit 0) d) (use_same handle needed (handle_opening xs session handle))

open_verdict_same : (setup : Settings) (xs : List Event) (session mode : ℕ) (name : Label) → open_verdict setup (map plain xs) session mode name ≡ open_verdict setup xs session mode name
unfolding open_verdict
open_verdict_same setup xs session mode name =
    ap (λ n. cond (nat_le 8 n) (Deny 19 8) (grant_verdict (free_handle_of (map plain xs) session) mode (find (λ g. same_label g.name name) (grants_of (account_named setup (verified_user (map plain xs) session)))))) (ap length (live_same xs session) ∙ length-map (live_handles_of xs session) plain)
    ∙ ap (λ n. cond (nat_le 8 (length (live_handles_of xs session))) (Deny 19 8) (grant_verdict n mode (find (λ g. same_label g.name name) (grants_of (account_named setup (verified_user (map plain xs) session)))))) (free_same xs session)
    ∙ ap (λ u. cond (nat_le 8 (length (live_handles_of xs session))) (Deny 19 8) (grant_verdict (free_handle_of xs session) mode (find (λ g. same_label g.name name) (grants_of (account_named setup u))))) (verified_same xs session)

close_verdict_same : (xs : List Event) (session handle : ℕ) → close_verdict (map plain xs) session handle ≡ close_verdict xs session handle
unfolding close_verdict
close_verdict_same xs session handle = ap (λ b. cond (eqb handle 0 || b) (Deny 17 handle) (Permit 0)) (ap is_none (opening_same xs session handle) ∙ none_same (handle_opening xs session handle))

account_sequence_same : (xs : List Event) (o : Option Account) → sequence_of (map plain xs) o ≡ sequence_of xs o
account_sequence_same xs None = refl
account_sequence_same xs (Some account) = sequence_same xs account

info_verdict_same : (setup : Settings) (xs : List Event) (session number : ℕ) → info_verdict setup (map plain xs) session number ≡ info_verdict setup xs session number
unfolding info_verdict
info_verdict_same setup xs session number =
    ap (λ u. cond (list_any (nat_eq number) setup.info) (Permit (sequence_of (map plain xs) (account_named setup u))) (Deny 22 number)) (verified_same xs session)
    ∙ ap (λ n. cond (list_any (nat_eq number) setup.info) (Permit n) (Deny 22 number)) (account_sequence_same xs (account_named setup (verified_user xs session)))

kind_verdict_same : (setup : Settings) (xs : List Event) (session : ℕ) (ask : Ask) → kind_verdict setup (map plain xs) session ask ≡ kind_verdict setup xs session ask
unfolding kind_verdict
kind_verdict_same setup xs session (asks.Challenge user now) = challenge_same setup xs session user now
kind_verdict_same setup xs session (asks.Reply words hex) = reply_same setup xs session words hex
kind_verdict_same setup xs session (asks.Export len) = ap (λ u. Permit (number_named setup u)) (verified_same xs session)
kind_verdict_same setup xs session (asks.ReadAt handle offset max) = handle_verdict_same xs session handle 1
kind_verdict_same setup xs session (asks.WriteAt handle offset len) = handle_verdict_same xs session handle 2
kind_verdict_same setup xs session (asks.OpenFile mode name) = open_verdict_same setup xs session mode name
kind_verdict_same setup xs session (asks.CloseFile handle) = close_verdict_same xs session handle
kind_verdict_same setup xs session (asks.Info number) = info_verdict_same setup xs session number
kind_verdict_same setup xs session _ = refl

row_same : (setup : Settings) (xs : List Event) (session : ℕ) (ask : Ask) (kind : Kind) (row : Row) → row_verdict setup (map plain xs) session ask kind row ≡ row_verdict setup xs session ask kind row
row_same setup xs session ask kind row =
    ap (λ b. cond (not row.permitted) (Deny 6 (request_number ask)) (cond (row.once && b) (Deny 7 (request_number ask)) (kind_verdict setup (map plain xs) session ask))) (has_same xs session (permits_kind kind) (kind_same kind))
    ∙ ap (λ d. cond (not row.permitted) (Deny 6 (request_number ask)) (cond (row.once && has_event xs session (permits_kind kind)) (Deny 7 (request_number ask)) d)) (kind_verdict_same setup xs session ask)

table_same : (setup : Settings) (xs : List Event) (session : ℕ) (ask : Ask) (kind : Option Kind) → table_verdict setup (map plain xs) session ask kind ≡ table_verdict setup xs session ask kind
table_same setup xs session ask None = refl
table_same setup xs session ask (Some kind) =
    ap (λ p. row_verdict setup (map plain xs) session ask kind (table_row p kind)) (phase_same xs session)
    ∙ row_same setup xs session ask kind (table_row (phase_of xs session) kind)

own_same : (setup : Settings) (xs : List Event) (session : ℕ) (ask : Ask) → own_verdict setup (map plain xs) session ask ≡ own_verdict setup xs session ask
own_same setup xs session (asks.Bad rule detail) = refl
own_same setup xs session ask = table_same setup xs session ask (kind_of ask)

request_same : (setup : Settings) (xs : List Event) (session : ℕ) (ask : Ask) → request_verdict setup (map plain xs) session ask ≡ request_verdict setup xs session ask
request_same setup xs session ask =
    ap (λ b. cond (eqb session 0 || b) (Deny 6 (request_number ask)) (cond (eqb (ask_count (map plain xs) session) setup.requests) (Deny 1 setup.requests) (own_verdict setup (map plain xs) session ask))) (over_same xs session)
    ∙ ap (λ n. cond (eqb session 0 || is_over xs session) (Deny 6 (request_number ask)) (cond (eqb n setup.requests) (Deny 1 setup.requests) (own_verdict setup (map plain xs) session ask))) (asked_same xs session)
    ∙ ap (λ d. cond (eqb session 0 || is_over xs session) (Deny 6 (request_number ask)) (cond (eqb (ask_count xs session) setup.requests) (Deny 1 setup.requests) d)) (own_same setup xs session ask)

by_session : (setup : Settings) (xs : List Event) (worker : ℕ) (ask : Ask) → request_verdict setup (map plain xs) (open_session_of (map plain xs) worker) ask ≡ request_verdict setup xs (open_session_of xs worker) ask
by_session setup xs worker ask = ap (λ s. request_verdict setup (map plain xs) s ask) (open_same xs worker) ∙ request_same setup xs (open_session_of xs worker) ask

pub verdict_same : (setup : Settings) (xs : List Event) (worker : ℕ) (ask : Ask) → verdict_of setup (map plain xs) worker ask ≡ verdict_of setup xs worker ask
unfolding verdict_of
verdict_same setup xs worker asks.Begin =
    ap (λ s. cond (eqb s 0) (Permit (openings_of (map plain xs) + 1)) (Deny 6 0)) (open_same xs worker)
    ∙ ap (λ n. cond (eqb (open_session_of xs worker) 0) (Permit (n + 1)) (Deny 6 0)) (openings_same xs)
verdict_same setup xs worker (asks.End why) = ap (λ s. cond (eqb s 0) (Deny 6 0) (Permit 0)) (open_same xs worker)
verdict_same setup xs worker ask = by_session setup xs worker ask

pub session_of_same : (xs : List Event) (worker : ℕ) (ask : Ask) (decision : Decision) → session_of (map plain xs) worker ask decision ≡ session_of xs worker ask decision
unfolding session_of
session_of_same xs worker asks.Begin (Permit value) = ap (λ n. n + 1) (openings_same xs)
session_of_same xs worker asks.Begin (Deny rule detail) = open_same xs worker
session_of_same xs worker asks.Begin Lost = refl
session_of_same xs worker ask decision = open_same xs worker
