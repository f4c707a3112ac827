-- What the verdict on each kind of ask comes to.
use Rattle.std.proofs.Common.{◌≡◌, ◌≢◌, ℕ, ◌+◌, ◌-◌, Bool, true, false, not, ◌&&◌, ◌||◌, cond, eqb, nat_eq, nat_le, List, length, Option, Some, None, refl, ap, arith, lit≤}
use Rattle.std.specs.Prelude.{is_none}
use Rattle.std.specs.List.{find, list_any}
use Rattle.std.proofs.lemmas.Bool.{eqb-true}
use Rattle.std.proofs.lemmas.Bool.Decides.{nat_tests}
use Rattle.request_catalogue.specs.declared.kind.Kind.{Kind}
use Rattle.request_catalogue.specs.declared.texts.Label.{Label}
use Rattle.request_catalogue.specs.declared.texts.Name.{Name}
use Rattle.policy_model.specs.declared.account.Account.{Account}
use Rattle.policy_model.specs.declared.account.Grant.{Grant}
use Rattle.policy_model.specs.declared.event.Ask.{Ask}
use Rattle.policy_model.specs.declared.event.Ask.TheVariants as asks
use Rattle.policy_model.specs.declared.event.Why.{Why}
use Rattle.policy_model.specs.declared.event.Decision.{Decision}
use Rattle.policy_model.specs.declared.event.Decision.TheVariants.{Permit, Deny, Lost}
use Rattle.policy_model.specs.declared.event.Event.{Event}
use Rattle.policy_model.specs.declared.phase.Row.{Row}
use Rattle.policy_model.specs.Asks.{is_begin, is_denied_reply, is_lost, is_proper, came_by_frame, is_violation, kind_of, mode_of, permits_kind, request_number}
use Rattle.policy_model.specs.Handles.{free_handle_of, live_handles_of, handle_opening}
use Rattle.policy_model.specs.Journal.{ask_count, count_of, has_event, open_session_of, openings_of}
use Rattle.policy_model.specs.Legal.{session_of}
use Rattle.policy_model.specs.Logins.{account_of, challenged_user, current_sequence, holder_of, is_live, last_taking_of, session_taking, verified_user, was_accepted, was_decoyed}
use Rattle.policy_model.specs.Phases.{is_over, phase_of, table_row}
use Rattle.policy_model.specs.Settings.{Settings, same_label}
use Rattle.policy_model.specs.Verdict.{IsVerdict, NamesRule, account_verdict, allows, challenge_verdict, close_verdict, decoy_challenge, decoy_verdict, handle_verdict, info_verdict, is_held, is_next_password, kind_verdict, open_verdict, own_verdict, readings, reply_verdict, request_verdict, row_verdict, verdict_of}
use Rattle.policy_model.specs.Cases.{account_named, grant_verdict, grants_of, is_holder, login_verdict, matching_verdict, readings_verdict, sequence_of, table_verdict, use_verdict}

-- a request is judged in the worker's open session
pub verdict_of-request : (setup : Settings) (journal : List Event) (worker : ℕ) (ask : Ask) → came_by_frame ask ≡ true → verdict_of setup journal worker ask ≡ request_verdict setup journal (open_session_of journal worker) ask
unfolding verdict_of
verdict_of-request setup journal worker asks.Begin h = absurd cc
verdict_of-request setup journal worker (asks.End why) h = absurd cc
verdict_of-request setup journal worker _ h = refl

-- an opening of a worker that has no open session is permitted, and its value is the session's number
pub verdict_of-begin : (setup : Settings) (journal : List Event) (worker : ℕ) → open_session_of journal worker ≡ 0 → verdict_of setup journal worker asks.Begin ≡ Permit (openings_of journal + 1)
unfolding verdict_of
verdict_of-begin setup journal worker none = ap (λ s. cond (eqb s 0) (Permit (openings_of journal + 1)) (Deny 6 0)) none

by_open : (s : ℕ) (x y : Decision) → s ≢ 0 → cond (eqb s 0) x y ≡ y
by_open s x y some = go (eqb s 0) refl where
  go : (b : Bool) → eqb s 0 ≡ b → cond b x y ≡ y
  go true e = absurd (some (eqb-true s 0 e))
  go false e = refl

-- the end of a worker's open session is permitted
pub verdict_of-end : (setup : Settings) (journal : List Event) (worker : ℕ) (why : Why) → open_session_of journal worker ≢ 0 → verdict_of setup journal worker (asks.End why) ≡ Permit 0
unfolding verdict_of
verdict_of-end setup journal worker why some = by_open (open_session_of journal worker) (Deny 6 0) (Permit 0) some

-- an opening of a worker that has an open session, and an end of one that has none, are denied by rule 6
pub denied_begin : (setup : Settings) (journal : List Event) (worker : ℕ) → open_session_of journal worker ≢ 0 → verdict_of setup journal worker asks.Begin ≡ Deny 6 0
unfolding verdict_of
denied_begin setup journal worker some = by_open (open_session_of journal worker) (Permit (openings_of journal + 1)) (Deny 6 0) some

pub denied_end : (setup : Settings) (journal : List Event) (worker : ℕ) (why : Why) → open_session_of journal worker ≡ 0 → verdict_of setup journal worker (asks.End why) ≡ Deny 6 0
unfolding verdict_of
denied_end setup journal worker why none = ap (λ s. cond (eqb s 0) (Deny 6 0) (Permit 0)) none

by_limit : (over limit : Bool) (n r : ℕ) (d : Decision) → is_violation (cond over (Deny 6 n) (cond limit (Deny 1 r) d)) ≡ false → limit ≡ false
by_limit true limit n r d h = absurd cc
by_limit false true n r d h = absurd cc
by_limit false false n r d h = refl

-- a request that is no violation was made below the limit of asks
pub ask_count-below : (setup : Settings) (journal : List Event) (session : ℕ) (ask : Ask) → is_violation (request_verdict setup journal session ask) ≡ false → ask_count journal session ≢ setup.requests
ask_count-below setup journal session ask h =
    let below : eqb (ask_count journal session) setup.requests ≡ false = by_limit (eqb session 0 || is_over journal session) (eqb (ask_count journal session) setup.requests) (request_number ask) setup.requests (own_verdict setup journal session ask) h in
    λ e. grind (arith, nat_tests)

-- only an opening has another session than the worker's open one
pub session_of-other : (journal : List Event) (worker : ℕ) (ask : Ask) (decision : Decision) → is_begin ask ≡ false → session_of journal worker ask decision ≡ open_session_of journal worker
unfolding session_of
session_of-other journal worker asks.Begin decision h = absurd cc
session_of-other journal worker _ decision h = refl

-- the session of a permitted opening
pub session_of-begin : (journal : List Event) (worker value : ℕ) → session_of journal worker asks.Begin (Permit value) ≡ openings_of journal + 1
unfolding session_of
session_of-begin journal worker value = refl

cond_decided : (b : Bool) (x y : Decision) → IsVerdict x → IsVerdict y → IsVerdict (cond b x y)
cond_decided true x y hx hy = hx
cond_decided false x y hx hy = hy

account_decided : (setup : Settings) (journal : List Event) (session : ℕ) (user : Name) (now : ℕ) (account : Option Account) → IsVerdict (account_verdict setup journal session user now account)
account_decided setup journal session user now None = tt
account_decided setup journal session user now (Some account) =
    let held : IsVerdict (Deny 12 (session_taking (last_taking_of journal user))) = (lit≤ tt, lit≤ tt) in
    let permit : IsVerdict (Permit (current_sequence journal account - 1)) = tt in
    let decoy : IsVerdict (decoy_challenge setup user) = tt in
    cond_decided (not (is_live journal account)) _ _ decoy (cond_decided (is_held setup journal session user now) _ _ held permit)

challenge_decided : (setup : Settings) (journal : List Event) (session : ℕ) (user : Name) (now : ℕ) → IsVerdict (challenge_verdict setup journal session user now)
unfolding challenge_verdict
challenge_decided setup journal session user now = cond_decided (nat_le setup.tries (count_of journal session is_denied_reply)) (Deny 8 setup.tries) (account_verdict setup journal session user now (account_of setup user)) (lit≤ tt, lit≤ tt) (account_decided setup journal session user now (account_of setup user))

matching_decided : (journal : List Event) (account : Account) (passwords : List ℕ) (o : Option ℕ) → IsVerdict (matching_verdict journal account passwords o)
matching_decided journal account passwords (Some password) = tt
matching_decided journal account passwords None = cond_decided (list_any (was_accepted journal account) passwords) (Deny 15 0) (Deny 16 0) (lit≤ tt, lit≤ tt) (lit≤ tt, lit≤ tt)

readings_decided : (journal : List Event) (passwords : List ℕ) (account : Option Account) → IsVerdict (readings_verdict journal passwords account)
readings_decided journal passwords None = (lit≤ tt, lit≤ tt)
readings_decided journal passwords (Some account) = matching_decided journal account passwords (find (is_next_password journal account) passwords)

login_decided : (setup : Settings) (journal : List Event) (session : ℕ) (passwords : List ℕ) (user : Option Name) → IsVerdict (login_verdict setup journal session passwords user)
login_decided setup journal session passwords None = (lit≤ tt, lit≤ tt)
login_decided setup journal session passwords (Some user) =
    cond_decided (not (is_holder session (holder_of journal user))) _ _ (lit≤ tt, lit≤ tt) (cond_decided (eqb (length passwords) 0) _ _ (lit≤ tt, lit≤ tt) (readings_decided journal passwords (account_of setup user)))

decoy_decided : (passwords : List ℕ) → IsVerdict (decoy_verdict passwords)
decoy_decided passwords = cond_decided (eqb (length passwords) 0) (Deny 14 0) (Deny 16 0) (lit≤ tt, lit≤ tt) (lit≤ tt, lit≤ tt)

reply_decided : (setup : Settings) (journal : List Event) (session : ℕ) (words hex : Option ℕ) → IsVerdict (reply_verdict setup journal session words hex)
unfolding reply_verdict
reply_decided setup journal session words hex =
    cond_decided (was_decoyed journal session) _ _ (decoy_decided (readings words hex)) (login_decided setup journal session (readings words hex) (challenged_user journal session))

use_decided : (handle needed : ℕ) (o : Option Event) → IsVerdict (use_verdict handle needed o)
use_decided handle needed None = (lit≤ tt, lit≤ tt)
use_decided handle needed (Some e) = cond_decided (allows (mode_of e.ask) needed) (Permit 0) (Deny 18 handle) tt (lit≤ tt, lit≤ tt)

handle_decided : (journal : List Event) (session handle needed : ℕ) → IsVerdict (handle_verdict journal session handle needed)
unfolding handle_verdict
handle_decided journal session handle needed = cond_decided (eqb handle 0) (Permit 0) (use_verdict handle needed (handle_opening journal session handle)) tt (use_decided handle needed (handle_opening journal session handle))

grant_decided : (free mode : ℕ) (o : Option Grant) → IsVerdict (grant_verdict free mode o)
grant_decided free mode None = (lit≤ tt, lit≤ tt)
grant_decided free mode (Some grant) = cond_decided (allows grant.mode mode) (Permit free) (Deny 21 mode) tt (lit≤ tt, lit≤ tt)

open_decided : (setup : Settings) (journal : List Event) (session mode : ℕ) (name : Label) → IsVerdict (open_verdict setup journal session mode name)
unfolding open_verdict
open_decided setup journal session mode name = cond_decided (nat_le 8 (length (live_handles_of journal session))) (Deny 19 8) _ (lit≤ tt, lit≤ tt) (grant_decided (free_handle_of journal session) mode (find (λ g. same_label g.name name) (grants_of (account_named setup (verified_user journal session)))))

close_decided : (journal : List Event) (session handle : ℕ) → IsVerdict (close_verdict journal session handle)
unfolding close_verdict
close_decided journal session handle = cond_decided (eqb handle 0 || is_none (handle_opening journal session handle)) (Deny 17 handle) (Permit 0) (lit≤ tt, lit≤ tt) tt

info_decided : (setup : Settings) (journal : List Event) (session number : ℕ) → IsVerdict (info_verdict setup journal session number)
unfolding info_verdict
info_decided setup journal session number = cond_decided (list_any (nat_eq number) setup.info) (Permit (sequence_of journal (account_named setup (verified_user journal session)))) (Deny 22 number) tt (lit≤ tt, lit≤ tt)

kind_decided : (setup : Settings) (journal : List Event) (session : ℕ) (ask : Ask) → IsVerdict (kind_verdict setup journal session ask)
unfolding kind_verdict
kind_decided setup journal session (asks.Challenge user now) = challenge_decided setup journal session user now
kind_decided setup journal session (asks.Reply words hex) = reply_decided setup journal session words hex
kind_decided setup journal session (asks.ReadAt handle offset max) = handle_decided journal session handle 1
kind_decided setup journal session (asks.WriteAt handle offset len) = handle_decided journal session handle 2
kind_decided setup journal session (asks.OpenFile mode name) = open_decided setup journal session mode name
kind_decided setup journal session (asks.CloseFile handle) = close_decided journal session handle
kind_decided setup journal session (asks.Info number) = info_decided setup journal session number
kind_decided setup journal session _ = tt

row_decided : (setup : Settings) (journal : List Event) (session : ℕ) (ask : Ask) (kind : Kind) (row : Row) → IsVerdict (row_verdict setup journal session ask kind row)
row_decided setup journal session ask kind row =
    cond_decided (not row.permitted) _ _ (lit≤ tt, lit≤ tt) (cond_decided (row.once && has_event journal session (permits_kind kind)) _ _ (lit≤ tt, lit≤ tt) (kind_decided setup journal session ask))

table_decided : (setup : Settings) (journal : List Event) (session : ℕ) (ask : Ask) (kind : Option Kind) → IsVerdict (table_verdict setup journal session ask kind)
table_decided setup journal session ask None = tt
table_decided setup journal session ask (Some kind) = row_decided setup journal session ask kind (table_row (phase_of journal session) kind)

own_decided : (setup : Settings) (journal : List Event) (session : ℕ) (ask : Ask) → is_proper ask ≡ true → IsVerdict (own_verdict setup journal session ask)
own_decided setup journal session (asks.Bad rule detail) h = grind (arith, nat_tests)
own_decided setup journal session ask h = table_decided setup journal session ask (kind_of ask)

request_decided : (setup : Settings) (journal : List Event) (session : ℕ) (ask : Ask) → is_proper ask ≡ true → IsVerdict (request_verdict setup journal session ask)
request_decided setup journal session ask h =
    let own = own_verdict setup journal session ask in
    let limit = eqb (ask_count journal session) setup.requests in
    cond_decided (eqb session 0 || is_over journal session) (Deny 6 (request_number ask)) (cond limit (Deny 1 setup.requests) own) (lit≤ tt, lit≤ tt)
    (cond_decided limit (Deny 1 setup.requests) own (lit≤ tt, lit≤ tt) (own_decided setup journal session ask h))

-- a verdict on a proper ask names a rule where it denies
pub verdict_of-is : (setup : Settings) (journal : List Event) (worker : ℕ) (ask : Ask) → is_proper ask ≡ true → IsVerdict (verdict_of setup journal worker ask)
unfolding verdict_of
verdict_of-is setup journal worker asks.Begin h = cond_decided (eqb (open_session_of journal worker) 0) (Permit (openings_of journal + 1)) (Deny 6 0) tt (lit≤ tt, lit≤ tt)
verdict_of-is setup journal worker (asks.End why) h = cond_decided (eqb (open_session_of journal worker) 0) (Deny 6 0) (Permit 0) (lit≤ tt, lit≤ tt) tt
verdict_of-is setup journal worker ask h = request_decided setup journal (open_session_of journal worker) ask h

-- what was decided isn't lost
pub is_lost-verdict : (decision : Decision) → IsVerdict decision → is_lost decision ≡ false
is_lost-verdict (Permit value) h = refl
is_lost-verdict (Deny rule detail) h = refl
is_lost-verdict Lost h = absurd h

pub named : (decision : Decision) → IsVerdict decision → NamesRule decision
named (Permit value) h = tt
named (Deny rule detail) h = h
named Lost h = tt
