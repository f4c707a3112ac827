-- What a session may do, apart from its login, is said by its own events.
use Rattle.std.proofs.Common.{◌≡◌, ◌≢◌, ℕ, ◌+◌, ◌≤◌, Bool, true, false, not, ◌&&◌, ◌||◌, cond, eqb, nat_le, List, [], ◌∷◌, ◌++◌, length, filter, Option, Some, None, refl, sym, ap, subst, ◌∙◌, arith}
use Rattle.std.specs.Prelude.{count_by, is_none, unwrap_or}
use Rattle.std.specs.List.{find, last_or, list_any}
use Rattle.std.proofs.lemmas.Bool.{eqb-true}
use Rattle.std.proofs.lemmas.Bool.Decides.{nat_tests}
use Rattle.std.proofs.lemmas.List.{append-nil}
use Rattle.std.proofs.lemmas.List.Elements.{filter-append}
use Rattle.std.proofs.lemmas.List.Sums.{length-filter}
use Rattle.request_catalogue.specs.declared.kind.Kind.{Kind}
use Rattle.policy_model.specs.declared.event.Ask.{Ask}
use Rattle.policy_model.specs.declared.event.Ask.TheVariants as asks
use Rattle.policy_model.specs.declared.event.Decision.{Decision}
use Rattle.policy_model.specs.declared.event.Decision.TheVariants.{Permit, Deny, Lost}
use Rattle.policy_model.specs.declared.event.Event.{Event}
use Rattle.policy_model.specs.declared.handles.TheConstants.{HANDLE_NUMBERS}
use Rattle.policy_model.specs.declared.phase.Phase.{Phase}
use Rattle.policy_model.specs.declared.phase.Phase.TheVariants.{Pre, Challenged, Verified, User, Over}
use Rattle.policy_model.specs.declared.phase.Row.{Row}
use Rattle.policy_model.specs.Asks.{accepts, came_by_frame, ends_session, exports, is_begin, is_end, is_login_step, is_permit, kind_of, opens, permits_kind, request_number, takes}
use Rattle.policy_model.specs.Handles.{free_handle_of, live_handles_of, live_opens}
use Rattle.policy_model.specs.Journal.{ask_count, count_of, events_of, has_event, is_own, is_turn_of, last_event, open_session_of, openings_of}
use Rattle.policy_model.specs.Cases.{session_opened, is_taking, user_named, account_named, grant_verdict, grants_of, number_named, table_verdict, use_verdict, handle_of}
use Rattle.policy_model.specs.Legal.{session_of}
use Rattle.policy_model.specs.Logins.{challenged_user, verified_user}
use Rattle.policy_model.specs.Phases.{is_over, phase_of, table_row}
use Rattle.policy_model.specs.Runs.{AreNumbered}
use Rattle.policy_model.specs.Settings.{Settings, same_label}
use Rattle.policy_model.specs.Verdict.{close_verdict, handle_verdict, kind_verdict, open_verdict, own_verdict, request_verdict, row_verdict, verdict_of}
use Rattle.policy_model.proofs.Lists.{last_or-push}
use Rattle.policy_model.proofs.LoginLemmas.{verified_user-push}
use Rattle.policy_model.proofs.Sessions.{AreNumbered-push, AreNumbered-weaker, openings_of-push, session_of-le}
use Rattle.policy_model.proofs.Verdicts.{session_of-begin, verdict_of-request}
use Rattle.session_laws.proofs.SessionEvents.{events_of-new}
use Rattle.audit_check.specs.Following.{IsRecent, is_local}
use Rattle.audit_check.specs.Legal.{IsLegalLog, MayFollow}
use Rattle.audit_check.proofs.Shown.{by_push}
use Rattle.audit_check.proofs.Fronts.{legal_front, legal_last}
use Rattle.audit_check.proofs.Witness.{by_log}

abbrev opening_in : ℕ → List Event → Option Event
opening_in handle live = find (λ e. eqb (handle_of e) handle) live

abbrev free_in : List Event → ℕ
free_in live = unwrap_or (find (λ n. is_none (opening_in n live)) HANDLE_NUMBERS) 0

-- 1. Words over two lists with the same events of the session

any_own : (session : ℕ) (p : Event → Bool) (xs : List Event) → has_event xs session p ≡ list_any p (events_of xs session)
any_own session p [] = refl
any_own session p (x ∷ xs) = go (eqb x.session session) (any_own session p xs) where
  go : (b : Bool) → has_event xs session p ≡ list_any p (events_of xs session) → ((b && p x) || has_event xs session p) ≡ list_any p (cond b (x ∷ events_of xs session) (events_of xs session))
  go true rest = ap (λ r. p x || r) rest
  go false rest = rest

filter_own : (session : ℕ) (p : Event → Bool) (xs : List Event) → filter (is_own session p) xs ≡ filter p (events_of xs session)
filter_own session p [] = refl
filter_own session p (x ∷ xs) = go (eqb x.session session) (filter_own session p xs) where
  go : (b : Bool) → filter (is_own session p) xs ≡ filter p (events_of xs session) → cond (b && p x) (x ∷ filter (is_own session p) xs) (filter (is_own session p) xs) ≡ filter p (cond b (x ∷ events_of xs session) (events_of xs session))
  go true rest = ap (λ r. cond (p x) (x ∷ r) r) rest
  go false rest = rest

pub has_recent : (session : ℕ) (p : Event → Bool) (xs ys : List Event) → events_of xs session ≡ events_of ys session → has_event xs session p ≡ has_event ys session p
has_recent session p xs ys same = any_own session p xs ∙ ap (list_any p) same ∙ sym (any_own session p ys)

filter_recent : (session : ℕ) (p : Event → Bool) (xs ys : List Event) → events_of xs session ≡ events_of ys session → filter (is_own session p) xs ≡ filter (is_own session p) ys
filter_recent session p xs ys same = filter_own session p xs ∙ ap (filter p) same ∙ sym (filter_own session p ys)

pub last_recent : (session : ℕ) (p : Event → Bool) (xs ys : List Event) → events_of xs session ≡ events_of ys session → last_event xs session p ≡ last_event ys session p
last_recent session p xs ys same = ap (last_or None) (filter_recent session p xs ys same)

pub count_recent : (session : ℕ) (p : Event → Bool) (xs ys : List Event) → events_of xs session ≡ events_of ys session → count_of xs session p ≡ count_of ys session p
count_recent session p xs ys same = sym (length-filter (is_own session p) xs) ∙ ap length (filter_recent session p xs ys same) ∙ length-filter (is_own session p) ys

pub over_recent : (session : ℕ) (xs ys : List Event) → events_of xs session ≡ events_of ys session → is_over xs session ≡ is_over ys session
over_recent session xs ys same = ap (λ own. not (list_any opens own) || list_any ends_session own) same

pub asked_recent : (session : ℕ) (xs ys : List Event) → events_of xs session ≡ events_of ys session → ask_count xs session ≡ ask_count ys session
asked_recent session xs ys same = ap (count_by (λ e. came_by_frame e.ask)) same

abbrev phase_by : Bool → Bool → Bool → Bool → Phase
phase_by over exported accepted challenged = cond over Over (cond exported User (cond accepted Verified (cond challenged Challenged Pre)))

pub phase_recent : (session : ℕ) (xs ys : List Event) → events_of xs session ≡ events_of ys session → phase_of xs session ≡ phase_of ys session
unfolding phase_of
phase_recent session xs ys same =
    ap (λ b. phase_by b (has_event xs session exports) (has_event xs session accepts) (is_taking (last_event xs session is_login_step))) (over_recent session xs ys same)
    ∙ ap (λ b. phase_by (is_over ys session) b (has_event xs session accepts) (is_taking (last_event xs session is_login_step))) (has_recent session exports xs ys same)
    ∙ ap (λ b. phase_by (is_over ys session) (has_event ys session exports) b (is_taking (last_event xs session is_login_step))) (has_recent session accepts xs ys same)
    ∙ ap (λ o. phase_by (is_over ys session) (has_event ys session exports) (has_event ys session accepts) (is_taking o)) (last_recent session is_login_step xs ys same)

challenged_recent : (session : ℕ) (xs ys : List Event) → events_of xs session ≡ events_of ys session → challenged_user xs session ≡ challenged_user ys session
unfolding challenged_user
challenged_recent session xs ys same = ap user_named (last_recent session takes xs ys same)

own_again : (session : ℕ) (xs : List Event) → events_of (events_of xs session) session ≡ events_of xs session
own_again session [] = refl
own_again session (x ∷ xs) = go (eqb x.session session) refl (own_again session xs) where
  go : (b : Bool) → eqb x.session session ≡ b → events_of (events_of xs session) session ≡ events_of xs session → events_of (cond b (x ∷ events_of xs session) (events_of xs session)) session ≡ cond b (x ∷ events_of xs session) (events_of xs session)
  go true is rest = ap (λ c. cond c (x ∷ events_of (events_of xs session) session) (events_of (events_of xs session) session)) is ∙ ap (λ r. x ∷ r) rest
  go false is rest = rest

verified_own : (session : ℕ) (xs : List Event) → verified_user xs session ≡ verified_user (events_of xs session) session
verified_own session = by_push (λ xs. verified_user xs session ≡ verified_user (events_of xs session) session) refl more where
  more : (f : List Event) (e : Event) → verified_user f session ≡ verified_user (events_of f session) session → verified_user (f ++ e ∷ []) session ≡ verified_user (events_of (f ++ e ∷ []) session) session
  more f e before = verified_user-push session f e ∙ go (eqb e.session session) refl ∙ ap (λ xs. verified_user xs session) (sym (filter-append (λ x. eqb x.session session) f (e ∷ []))) where
    own : List Event
    own = events_of f session

    go : (b : Bool) → eqb e.session session ≡ b → cond (eqb e.session session && accepts e) (challenged_user f session) (verified_user f session) ≡ verified_user (own ++ cond (eqb e.session session) (e ∷ []) []) session
    go false is =
        ap (λ c. cond (c && accepts e) (challenged_user f session) (verified_user f session)) is
        ∙ before
        ∙ ap (λ xs. verified_user xs session) (sym (append-nil own))
        ∙ ap (λ c. verified_user (own ++ cond c (e ∷ []) []) session) (sym is)
    go true is =
        ap (λ u. cond (eqb e.session session && accepts e) u (verified_user f session)) (challenged_recent session f own (sym (own_again session f)))
        ∙ ap (λ u. cond (eqb e.session session && accepts e) (challenged_user own session) u) before
        ∙ sym (verified_user-push session own e)
        ∙ ap (λ c. verified_user (own ++ cond c (e ∷ []) []) session) (sym is)

pub verified_recent : (session : ℕ) (xs ys : List Event) → events_of xs session ≡ events_of ys session → verified_user xs session ≡ verified_user ys session
verified_recent session xs ys same = verified_own session xs ∙ ap (λ own. verified_user own session) same ∙ sym (verified_own session ys)

live_recent : (session : ℕ) (xs ys : List Event) → events_of xs session ≡ events_of ys session → live_handles_of xs session ≡ live_handles_of ys session
unfolding live_handles_of
live_recent session xs ys same = ap live_opens same

-- 2. The verdict

kind_recent : (setup : Settings) (session : ℕ) (xs ys : List Event) → events_of xs session ≡ events_of ys session → (ask : Ask) → is_local ask ≡ true → kind_verdict setup xs session ask ≡ kind_verdict setup ys session ask
unfolding kind_verdict handle_verdict open_verdict close_verdict
kind_recent setup session xs ys same (asks.Challenge user now) h = absurd cc
kind_recent setup session xs ys same (asks.Reply words hex) h = absurd cc
kind_recent setup session xs ys same (asks.Info number) h = absurd cc
kind_recent setup session xs ys same (asks.Export len) h = ap (λ u. Permit (number_named setup u)) (verified_recent session xs ys same)
kind_recent setup session xs ys same (asks.ReadAt handle offset max) h = ap (λ l. cond (eqb handle 0) (Permit 0) (use_verdict handle 1 (opening_in handle l))) (live_recent session xs ys same)
kind_recent setup session xs ys same (asks.WriteAt handle offset len) h = ap (λ l. cond (eqb handle 0) (Permit 0) (use_verdict handle 2 (opening_in handle l))) (live_recent session xs ys same)
kind_recent setup session xs ys same (asks.OpenFile mode name) h =
    ap (λ l. cond (nat_le 8 (length l)) (Deny 19 8) (grant_verdict (free_in l) mode (find (λ g. same_label g.name name) (grants_of (account_named setup (verified_user xs session)))))) (live_recent session xs ys same)
    ∙ ap (λ u. cond (nat_le 8 (length (live_handles_of ys session))) (Deny 19 8) (grant_verdict (free_handle_of ys session) mode (find (λ g. same_label g.name name) (grants_of (account_named setup u))))) (verified_recent session xs ys same)
kind_recent setup session xs ys same (asks.CloseFile handle) h = ap (λ l. cond (eqb handle 0 || is_none (opening_in handle l)) (Deny 17 handle) (Permit 0)) (live_recent session xs ys same)
kind_recent setup session xs ys same _ h = refl

row_recent : (setup : Settings) (session : ℕ) (xs ys : List Event) → events_of xs session ≡ events_of ys session → (ask : Ask) → is_local ask ≡ true → (kind : Kind) (row : Row) → row_verdict setup xs session ask kind row ≡ row_verdict setup ys session ask kind row
row_recent setup session xs ys same ask h kind row =
    ap (λ b. cond (not row.permitted) (Deny 6 (request_number ask)) (cond (row.once && b) (Deny 7 (request_number ask)) (kind_verdict setup xs session ask))) (has_recent session (permits_kind kind) xs ys same)
    ∙ ap (λ d. cond (not row.permitted) (Deny 6 (request_number ask)) (cond (row.once && has_event ys session (permits_kind kind)) (Deny 7 (request_number ask)) d)) (kind_recent setup session xs ys same ask h)

table_recent : (setup : Settings) (session : ℕ) (xs ys : List Event) → events_of xs session ≡ events_of ys session → (ask : Ask) → is_local ask ≡ true → (kind : Option Kind) → table_verdict setup xs session ask kind ≡ table_verdict setup ys session ask kind
table_recent setup session xs ys same ask h None = refl
table_recent setup session xs ys same ask h (Some kind) =
    ap (λ p. row_verdict setup xs session ask kind (table_row p kind)) (phase_recent session xs ys same)
    ∙ row_recent setup session xs ys same ask h kind (table_row (phase_of ys session) kind)

own_recent : (setup : Settings) (session : ℕ) (xs ys : List Event) → events_of xs session ≡ events_of ys session → (ask : Ask) → is_local ask ≡ true → own_verdict setup xs session ask ≡ own_verdict setup ys session ask
own_recent setup session xs ys same (asks.Bad rule detail) h = refl
own_recent setup session xs ys same ask h = table_recent setup session xs ys same ask h (kind_of ask)

request_recent : (setup : Settings) (session : ℕ) (xs ys : List Event) → events_of xs session ≡ events_of ys session → (ask : Ask) → is_local ask ≡ true → request_verdict setup xs session ask ≡ request_verdict setup ys session ask
request_recent setup session xs ys same ask h =
    ap (λ b. cond (eqb session 0 || b) (Deny 6 (request_number ask)) (cond (eqb (ask_count xs session) setup.requests) (Deny 1 setup.requests) (own_verdict setup xs session ask))) (over_recent session xs ys same)
    ∙ ap (λ n. cond (eqb session 0 || is_over ys session) (Deny 6 (request_number ask)) (cond (eqb n setup.requests) (Deny 1 setup.requests) (own_verdict setup xs session ask))) (asked_recent session xs ys same)
    ∙ ap (λ d. cond (eqb session 0 || is_over ys session) (Deny 6 (request_number ask)) (cond (eqb (ask_count ys session) setup.requests) (Deny 1 setup.requests) d)) (own_recent setup session xs ys same ask h)

-- 3. A worker's open session

-- in a legal log no event has a greater session than were opened
pub numbered : (setup : Settings) (events : List Event) → IsLegalLog setup events → AreNumbered events (openings_of events)
numbered setup = by_log setup (λ xs. AreNumbered xs (openings_of xs)) tt more where
  more : (xs : List Event) (e : Event) → MayFollow setup xs e → AreNumbered xs (openings_of xs) → AreNumbered (xs ++ e ∷ []) (openings_of (xs ++ e ∷ []))
  more xs e may before =
      let opened : openings_of (xs ++ e ∷ []) ≡ openings_of xs + cond (opens e) 1 0 = openings_of-push xs e in
      let given : e.session ≤ openings_of xs + cond (opens e) 1 0 = subst (λ n. n ≤ openings_of xs + cond (opens e) 1 0) (sym may.session) (session_of-le xs e.worker e.ask e.decision before) in
      AreNumbered-push xs e (openings_of (xs ++ e ∷ [])) (AreNumbered-weaker xs (openings_of xs) (openings_of (xs ++ e ∷ [])) (omega (arith, opened)) before) (omega (arith, opened, given))

last_cons : (xs : List Event) (t : Event) (rest : List Event) → rest ≡ [] → last_or None (xs ++ t ∷ rest) ≡ Some t
last_cons xs t rest none = ap (λ r. last_or None (xs ++ t ∷ r)) none ∙ last_or-push None xs t

pub open_recent : (worker : ℕ) (front : List Event) (t : Event) (rest : List Event) → is_turn_of worker t ≡ true → filter (is_turn_of worker) rest ≡ [] → open_session_of (front ++ t ∷ rest) worker ≡ session_opened (Some t)
open_recent worker front t rest turn none =
    ap (λ xs. session_opened (last_or None xs)) (filter-append (is_turn_of worker) front (t ∷ rest))
    ∙ ap (λ b. session_opened (last_or None (filter (is_turn_of worker) front ++ cond b (t ∷ filter (is_turn_of worker) rest) (filter (is_turn_of worker) rest)))) turn
    ∙ ap session_opened (last_cons (filter (is_turn_of worker) front) t (filter (is_turn_of worker) rest) none)

-- before an opening no event has its session
pub fresh : (setup : Settings) (front : List Event) (t : Event) (rest : List Event) → IsLegalLog setup (front ++ t ∷ rest) → is_begin t.ask ≡ true → is_permit t.decision ≡ true → events_of front t.session ≡ []
fresh setup front t rest legal begin permit =
    let may = legal_last setup front t rest legal in
    let number : t.session ≡ openings_of front + 1 = may.session ∙ opening_number front t.worker t.ask t.decision begin permit in
    events_of-new front (openings_of front) t.session (numbered setup front (legal_front setup front (t ∷ rest) legal)) (omega (arith, number)) where
      opening_number : (before : List Event) (worker : ℕ) (ask : Ask) (d : Decision) → is_begin ask ≡ true → is_permit d ≡ true → session_of before worker ask d ≡ openings_of before + 1
      opening_number before worker asks.Begin (Permit value) b p = session_of-begin before worker value
      opening_number before worker asks.Begin (Deny rule detail) b p = absurd cc
      opening_number before worker asks.Begin Lost b p = absurd cc
      opening_number before worker _ d b p = absurd cc

framed : (ask : Ask) → is_local ask ≡ true → is_end ask ≡ false → came_by_frame ask ≡ true
framed asks.Begin h e = absurd cc
framed (asks.End why) h e = absurd cc
framed _ h e = refl

none_open : (setup : Settings) (xs : List Event) (ask : Ask) (n : ℕ) → n ≡ 0 → request_verdict setup xs n ask ≡ Deny 6 (request_number ask)
none_open setup xs ask n h = ap (λ s. request_verdict setup xs s ask) h

end_verdict : (setup : Settings) (xs ys : List Event) (worker : ℕ) (ask : Ask) → is_end ask ≡ true → open_session_of xs worker ≡ open_session_of ys worker → verdict_of setup xs worker ask ≡ verdict_of setup ys worker ask
unfolding verdict_of
end_verdict setup xs ys worker (asks.End why) h same = ap (λ s. cond (eqb s 0) (Deny 6 0) (Permit 0)) same
end_verdict setup xs ys worker _ h same = absurd cc

not_zero : (n : ℕ) → eqb n 0 ≡ false → n ≢ 0
not_zero n h e = grind (arith, nat_tests)

pub recent_verdict : (setup : Settings) (events recent : List Event) (worker : ℕ) (ask : Ask) → IsRecent recent worker events → is_local ask ≡ true → verdict_of setup recent worker ask ≡ verdict_of setup events worker ask
recent_verdict setup events recent worker ask r local = go (is_end ask) refl where
  s : ℕ
  s = open_session_of events worker

  by : (b : Bool) → eqb s 0 ≡ b → request_verdict setup recent s ask ≡ request_verdict setup events s ask
  by true h = none_open setup recent ask s (eqb-true s 0 h) ∙ sym (none_open setup events ask s (eqb-true s 0 h))
  by false h = request_recent setup s recent events (r.own (not_zero s h)) ask local

  go : (b : Bool) → is_end ask ≡ b → verdict_of setup recent worker ask ≡ verdict_of setup events worker ask
  go true h = end_verdict setup recent events worker ask h r.session
  go false h =
      verdict_of-request setup recent worker ask (framed ask local h)
      ∙ ap (λ n. request_verdict setup recent n ask) r.session
      ∙ by (eqb s 0) refl
      ∙ sym (verdict_of-request setup events worker ask (framed ask local h))
