-- Strangers are told alike: the verdicts on what a session asks by which nobody has logged in.
use Rattle.std.proofs.Common.{◌≡◌, ◌≢◌, ℕ, ◌+◌, Bool, true, false, not, ◌&&◌, ◌||◌, ◌==◌, cond, eqb, nat_le, List, [], ◌∷◌, ◌++◌, length, take, Option, Some, None, refl, sym, ap, subst, ◌∙◌, arith}
use Rattle.std.specs.Prelude.{slice_get}
use Rattle.std.specs.List.{find, list_any}
use Rattle.std.proofs.lemmas.List.{take_more}
use Rattle.std.proofs.lemmas.Option.{get_or_from_slice_get, slice_get_within}
use Rattle.std.proofs.lemmas.Bool.{and_parts, eqb-true, false≢true, ne_eqb, or_parts}
use Rattle.std.proofs.lemmas.Bool.Decides.{nat_tests}
use Rattle.request_catalogue.specs.declared.kind.Kind.TheVariants as kinds
use Rattle.request_catalogue.specs.declared.texts.Name.{Name}
use Rattle.policy_model.specs.declared.account.Account.{Account}
use Rattle.policy_model.specs.declared.event.Ask.{Ask}
use Rattle.policy_model.specs.declared.event.Ask.TheVariants as asks
use Rattle.policy_model.specs.declared.event.Decision.{Decision}
use Rattle.policy_model.specs.declared.event.Decision.TheVariants.{Permit, Deny, Lost}
use Rattle.policy_model.specs.declared.event.Event.{Event}
use Rattle.policy_model.specs.declared.phase.Phase.{Phase}
use Rattle.policy_model.specs.declared.phase.Phase.TheVariants.{Pre, Challenged, Verified, User, Over}
use Rattle.policy_model.specs.Asks.{accepts, ends_session, exports, is_begin, is_challenge, is_login_step, is_lost, is_permit, is_proper, came_by_frame, opens, opens_file, permits_kind, request_number, shown_of, value_of}
use Rattle.policy_model.specs.Cases.{is_open, is_reply, is_taking, is_holder, login_verdict, matching_verdict, readings_verdict, use_verdict}
use Rattle.policy_model.specs.Handles.{live_handles_of, live_opens, handle_opening}
use Rattle.policy_model.specs.Journal.{ask_count, events_of, has_event, has_lost, is_own, last_event, open_session_of, openings_of}
use Rattle.policy_model.specs.Legal.{IsLegal, IsNext, session_of}
use Rattle.policy_model.specs.Logins.{account_of, challenged_user, holder_of, last_taking_of, session_taking, was_accepted, was_decoyed}
use Rattle.policy_model.specs.Phases.{is_over, phase_of, table_row}
use Rattle.policy_model.specs.Settings.{Settings}
use Rattle.policy_laws.specs.Strangers.{IsStrangersAsk, Told, told_in}
use Rattle.policy_laws.specs.Verdicts.{StrangersAreToldAlike, is_challenged, stranger_kind, stranger_verdict, told_end, told_permit}
use Rattle.policy_model.specs.Verdict.{decoy_verdict, handle_verdict, is_next_password, kind_verdict, own_verdict, readings, reply_verdict, request_verdict, row_verdict}
use Rattle.policy_laws.proofs.Apart.{has_event-push, is_ending, not_ended}
use Rattle.policy_model.proofs.Lists.{list_any-filter}
use Rattle.policy_model.proofs.Runs.{next_decision, next_session, no_begin}
use Rattle.policy_laws.proofs.Sequences.{IsLegal-take}
use Rattle.policy_laws.proofs.Told.{count_told, had_banner, has_ended, was_challenged}
use Rattle.policy_model.proofs.Verdicts.{session_of-begin, session_of-other, verdict_of-request}
use Rattle.session_laws.proofs.ByEvents.{by_events}
use Rattle.session_laws.proofs.Permits.{request_permit}
use Rattle.session_laws.proofs.Permitted.{exported_in_verified}
use Rattle.session_laws.proofs.PhaseLemmas.{phase_tests}

-- a REPLY that is denied is shown as refused by rule 16
abbrev Refuses : Decision → Type 0
Refuses d = is_permit d ≡ false → shown_of d ≡ Deny 16 0

cond_refuses : (b : Bool) (x y : Decision) → Refuses x → Refuses y → Refuses (cond b x y)
cond_refuses true x y p q = p
cond_refuses false x y p q = q

matching_refuses : (journal : List Event) (account : Account) (passwords : List ℕ) (o : Option ℕ) → Refuses (matching_verdict journal account passwords o)
matching_refuses journal account passwords (Some password) = λ h. absurd cc
matching_refuses journal account passwords None = cond_refuses (list_any (was_accepted journal account) passwords) (Deny 15 0) (Deny 16 0) (λ h. refl) (λ h. refl)

readings_refuses : (journal : List Event) (passwords : List ℕ) (o : Option Account) → Refuses (readings_verdict journal passwords o)
readings_refuses journal passwords None = λ h. refl
readings_refuses journal passwords (Some account) = matching_refuses journal account passwords (find (is_next_password journal account) passwords)

login_refuses : (setup : Settings) (journal : List Event) (session : ℕ) (passwords : List ℕ) (o : Option Name) → Refuses (login_verdict setup journal session passwords o)
login_refuses setup journal session passwords None = λ h. refl
login_refuses setup journal session passwords (Some user) =
    cond_refuses (not (is_holder session (holder_of journal user))) (Deny 13 (session_taking (last_taking_of journal user))) _ (λ h. refl)
    (cond_refuses (eqb (length passwords) 0) (Deny 14 0) (readings_verdict journal passwords (account_of setup user)) (λ h. refl) (readings_refuses journal passwords (account_of setup user)))

reply_refuses : (setup : Settings) (journal : List Event) (session : ℕ) (words hex : Option ℕ) → Refuses (reply_verdict setup journal session words hex)
unfolding reply_verdict
reply_refuses setup journal session words hex =
    cond_refuses (was_decoyed journal session) (decoy_verdict (readings words hex)) (login_verdict setup journal session (readings words hex) (challenged_user journal session))
    (cond_refuses (eqb (length (readings words hex)) 0) (Deny 14 0) (Deny 16 0) (λ h. refl) (λ h. refl))
    (login_refuses setup journal session (readings words hex) (challenged_user journal session))

-- the phase of a session that isn't over and by which nobody has logged in
phase_is : (journal : List Event) (session : ℕ) → is_over journal session ≡ false → has_event journal session exports ≡ false → has_event journal session accepts ≡ false → phase_of journal session ≡ cond (is_taking (last_event journal session is_login_step)) Challenged Pre
unfolding phase_of
phase_is journal session going exported accepted = go (is_over journal session) (has_event journal session exports) (has_event journal session accepts) going exported accepted where
  go : (o x a : Bool) → o ≡ false → x ≡ false → a ≡ false → cond o Over (cond x User (cond a Verified (cond (is_taking (last_event journal session is_login_step)) Challenged Pre))) ≡ cond (is_taking (last_event journal session is_login_step)) Challenged Pre
  go true x a p q r = absurd cc
  go false true a p q r = absurd cc
  go false false true p q r = absurd cc
  go false false false p q r = refl

-- files are opened by users alone, and users are logged in
open_phase : (phase : Phase) → (table_row phase kinds.OpenFile).permitted ≡ true → phase ≡ User
open_phase Pre h = absurd cc
open_phase Challenged h = absurd cc
open_phase Verified h = absurd cc
open_phase User h = refl
open_phase Over h = absurd cc

user_exports : (journal : List Event) (session : ℕ) → phase_of journal session ≡ User → has_event journal session exports ≡ true
unfolding phase_of
user_exports journal session h = go (is_over journal session) (has_event journal session exports) (has_event journal session accepts) (is_taking (last_event journal session is_login_step)) h where
  go : (over exported accepted taking : Bool) → cond over Over (cond exported User (cond accepted Verified (cond taking Challenged Pre))) ≡ User → exported ≡ true
  go true exported accepted taking h = absurd cc
  go false true accepted taking h = refl
  go false false true taking h = absurd cc
  go false false false true h = absurd cc
  go false false false false h = absurd cc

permit_after : (b : Bool) (rule detail v : ℕ) (d : Decision) → cond b (Deny rule detail) d ≡ Permit v → d ≡ Permit v
permit_after true rule detail v d h = absurd cc
permit_after false rule detail v d h = h

permit_cell : (b : Bool) (rule detail v : ℕ) (d : Decision) → cond (not b) (Deny rule detail) d ≡ Permit v → b ≡ true
permit_cell true rule detail v d h = refl
permit_cell false rule detail v d h = absurd cc

open_judged : (setup : Settings) (journal : List Event) (session : ℕ) (ask : Ask) (value : ℕ) → is_open ask ≡ true → request_verdict setup journal session ask ≡ Permit value → (table_row (phase_of journal session) kinds.OpenFile).permitted ≡ true
open_judged setup journal session (asks.OpenFile mode name) value is h =
    let a = permit_after (eqb session 0 || is_over journal session) 6 9 value _ h in
    let b = permit_after (eqb (ask_count journal session) setup.requests) 1 setup.requests value _ a in
    permit_cell (table_row (phase_of journal session) kinds.OpenFile).permitted 6 9 value _ b
open_judged setup journal session _ value is h = absurd cc

request_open : (ask : Ask) → is_open ask ≡ true → came_by_frame ask ≡ true
request_open (asks.OpenFile mode name) h = refl
request_open _ h = absurd cc

record Uses (journal : List Event) (session : ℕ) : Type 0 where
  pub exported : has_event journal session exports ≡ true → has_event journal session accepts ≡ true
  pub opened : has_event journal session opens_file ≡ true → has_event journal session exports ≡ true

true_or : (a b : Bool) → a ≡ true → (a || b) ≡ true
true_or true b h = refl
true_or false b h = absurd cc

either_of : (a b c d : Bool) → (a || b) ≡ true → (a ≡ true → c ≡ true) → (b ≡ true → c ≡ true) → (c || d) ≡ true
either_of true b c d h p q = true_or c d (p refl)
either_of false b c d h p q = true_or c d (q h)

uses : (setup : Settings) (journal : List Event) → IsLegal setup journal → (session : ℕ) → Uses journal session
uses setup journal legal = by_events setup (λ j. (session : ℕ) → Uses j session) (λ session. record { exported = λ h. absurd cc; opened = λ h. absurd cc }) more journal legal where
  more : (j : List Event) (e : Event) → IsNext setup j e → ((session : ℕ) → Uses j session) → (session : ℕ) → Uses (j ++ e ∷ []) session
  more j e next before session = record {
    exported = λ h.
        has_event-push j session accepts e ∙ either_of (has_event j session exports) (is_own session exports e) (has_event j session accepts) (is_own session accepts e) (sym (has_event-push j session exports e) ∙ h) (before session).exported exported;
    opened = λ h.
        has_event-push j session exports e ∙ either_of (has_event j session opens_file) (is_own session opens_file e) (has_event j session exports) (is_own session exports e) (sym (has_event-push j session opens_file e) ∙ h) (before session).opened opened;
  } where
    exported : is_own session exports e ≡ true → has_event j session accepts ≡ true
    exported h =
        let both = and_parts (eqb e.session session) (exports e) h in
        ap (λ s. has_event j s accepts) (sym (eqb-true e.session session both.0))
        ∙ (phase_tests j e.session Verified (exported_in_verified setup j e next both.1)).1.1

    opened : is_own session opens_file e ≡ true → has_event j session exports ≡ true
    opened h =
        let both = and_parts (eqb e.session session) (opens_file e) h in
        let is = and_parts (is_open e.ask) (is_permit e.decision) both.1 in
        ap (λ s. has_event j s exports) (sym (eqb-true e.session session both.0))
        ∙ user_exports j e.session (open_phase (phase_of j e.session) (open_judged setup j e.session e.ask (value_of e.decision) is.0 (request_permit setup j e next (request_open e.ask is.0) is.1)))

pub not_then : (a b : Bool) → (a ≡ true → b ≡ true) → b ≡ false → a ≡ false
not_then true b h fails = absurd (false≢true (sym fails ∙ h refl))
not_then false b h fails = refl

none_live : (events : List Event) → list_any opens_file events ≡ false → live_opens events ≡ []
none_live [] h = refl
none_live (e ∷ es) h =
    let both = or_parts (opens_file e) (list_any opens_file es) h in
    rw both.0 (none_live es both.1)

no_opening : (journal : List Event) (session handle : ℕ) → has_event journal session opens_file ≡ false → handle_opening journal session handle ≡ None
unfolding live_handles_of
no_opening journal session handle h =
    let none = none_live (events_of journal session) (list_any-filter opens_file (λ e. e.session == session) journal ∙ h) in
    ap (find (λ e. eqb (value_of e.decision) handle)) none

-- the verdict in a session that goes on, by whether it is challenged
by_phase : (f : Phase → Decision) (d : Bool → Decision) (t : Bool) → f Challenged ≡ d true → f Pre ≡ d false → f (cond t Challenged Pre) ≡ d t
by_phase f d true p q = p
by_phase f d false p q = q

record Standing (journal : List Event) (session : ℕ) (told : List Told) : Type 0 where
  pub phase : phase_of journal session ≡ cond (is_challenged told) Challenged Pre
  pub banner : list_any (told_permit kinds.Banner) told ≡ has_event journal session (permits_kind kinds.Banner)
  pub closed : (handle : ℕ) → handle_opening journal session handle ≡ None

shown_banner : (b : Bool) → shown_of (cond b (Deny 7 1) (Permit 0)) ≡ cond b (Deny 7 1) (Permit 0)
shown_banner true = refl
shown_banner false = refl

shown_use : (b : Bool) (handle needed : ℕ) (o : Option Event) → o ≡ None → shown_of (cond b (Permit 0) (use_verdict handle needed o)) ≡ cond b (Permit 0) (Deny 17 handle)
shown_use true handle needed o h = refl
shown_use false handle needed None h = refl
shown_use false handle needed (Some e) h = absurd cc

shown_bad : (rule detail : ℕ) → (nat_le 2 rule && nat_le rule 5) ≡ true → shown_of (Deny rule detail) ≡ Deny rule detail
shown_bad rule detail h = go (nat_le 13 rule && nat_le rule 16) refl where
  go : (b : Bool) → (nat_le 13 rule && nat_le rule 16) ≡ b → cond b (Deny 16 0) (Deny rule detail) ≡ Deny rule detail
  go true is = absurd (grind (arith, nat_tests, h, is))
  go false is = refl

own_shown : (setup : Settings) (journal : List Event) (session : ℕ) (told : List Told) (ask : Ask) → Standing journal session told → came_by_frame ask ≡ true → is_challenge ask ≡ false → is_proper ask ≡ true → (is_reply ask && is_permit (own_verdict setup journal session ask)) ≡ false → shown_of (own_verdict setup journal session ask) ≡ stranger_kind told ask
unfolding kind_verdict handle_verdict
own_shown setup journal session told asks.Begin s request other proper refused = absurd (false≢true request)
own_shown setup journal session told (asks.End why) s request other proper refused = absurd (false≢true request)
own_shown setup journal session told (asks.Challenge user now) s request other proper refused = absurd (false≢true (sym other))
own_shown setup journal session told (asks.Bad rule detail) s request other proper refused = shown_bad rule detail proper
own_shown setup journal session told asks.Banner s request other proper refused =
    let f = λ (p : Phase). shown_of (row_verdict setup journal session asks.Banner kinds.Banner (table_row p kinds.Banner)) in
    let had = has_event journal session (permits_kind kinds.Banner) in
    ap f s.phase ∙ by_phase f (λ b. cond had (Deny 7 1) (Permit 0)) (is_challenged told) (shown_banner had) (shown_banner had) ∙ ap (λ b. cond b (Deny 7 1) (Permit 0)) (sym s.banner)
own_shown setup journal session told (asks.Reply words hex) s request other proper refused =
    let row = λ (p : Phase). row_verdict setup journal session (asks.Reply words hex) kinds.Reply (table_row p kinds.Reply) in
    ap (λ p. shown_of (row p)) s.phase ∙ go (is_challenged told) (sym (ap (λ p. is_permit (row p)) s.phase) ∙ refused) where
      go : (b : Bool) → is_permit (row_verdict setup journal session (asks.Reply words hex) kinds.Reply (table_row (cond b Challenged Pre) kinds.Reply)) ≡ false → shown_of (row_verdict setup journal session (asks.Reply words hex) kinds.Reply (table_row (cond b Challenged Pre) kinds.Reply)) ≡ cond b (Deny 16 0) (Deny 6 3)
      go true h = reply_refuses setup journal session words hex h
      go false h = refl
own_shown setup journal session told asks.Abandon s request other proper refused =
    let f = λ (p : Phase). shown_of (row_verdict setup journal session asks.Abandon kinds.Abandon (table_row p kinds.Abandon)) in
    ap f s.phase ∙ by_phase f (λ b. cond b (Permit 0) (Deny 6 4)) (is_challenged told) refl refl
own_shown setup journal session told (asks.Export len) s request other proper refused =
    let f = λ (p : Phase). shown_of (row_verdict setup journal session (asks.Export len) kinds.Export (table_row p kinds.Export)) in
    ap f s.phase ∙ by_phase f (λ b. Deny 6 5) (is_challenged told) refl refl
own_shown setup journal session told asks.Import s request other proper refused =
    let f = λ (p : Phase). shown_of (row_verdict setup journal session asks.Import kinds.Import (table_row p kinds.Import)) in
    ap f s.phase ∙ by_phase f (λ b. Deny 6 6) (is_challenged told) refl refl
own_shown setup journal session told (asks.OpenFile mode name) s request other proper refused =
    let f = λ (p : Phase). shown_of (row_verdict setup journal session (asks.OpenFile mode name) kinds.OpenFile (table_row p kinds.OpenFile)) in
    ap f s.phase ∙ by_phase f (λ b. Deny 6 9) (is_challenged told) refl refl
own_shown setup journal session told (asks.CloseFile handle) s request other proper refused =
    let f = λ (p : Phase). shown_of (row_verdict setup journal session (asks.CloseFile handle) kinds.CloseFile (table_row p kinds.CloseFile)) in
    ap f s.phase ∙ by_phase f (λ b. Deny 6 10) (is_challenged told) refl refl
own_shown setup journal session told (asks.Info number) s request other proper refused =
    let f = λ (p : Phase). shown_of (row_verdict setup journal session (asks.Info number) kinds.Info (table_row p kinds.Info)) in
    ap f s.phase ∙ by_phase f (λ b. Deny 6 11) (is_challenged told) refl refl
own_shown setup journal session told (asks.ReadAt handle offset max) s request other proper refused =
    let f = λ (p : Phase). shown_of (row_verdict setup journal session (asks.ReadAt handle offset max) kinds.ReadAt (table_row p kinds.ReadAt)) in
    let shown = shown_use (eqb handle 0) handle 1 (handle_opening journal session handle) (s.closed handle) in
    ap f s.phase ∙ by_phase f (λ b. cond (eqb handle 0) (Permit 0) (Deny 17 handle)) (is_challenged told) shown shown
own_shown setup journal session told (asks.WriteAt handle offset len) s request other proper refused =
    let f = λ (p : Phase). shown_of (row_verdict setup journal session (asks.WriteAt handle offset len) kinds.WriteAt (table_row p kinds.WriteAt)) in
    let shown = shown_use (eqb handle 0) handle 2 (handle_opening journal session handle) (s.closed handle) in
    ap f s.phase ∙ by_phase f (λ b. cond (eqb handle 0) (Permit 0) (Deny 17 handle)) (is_challenged told) shown shown
own_shown setup journal session told (asks.Note text) s request other proper refused =
    let f = λ (p : Phase). shown_of (row_verdict setup journal session (asks.Note text) kinds.Note (table_row p kinds.Note)) in
    ap f s.phase ∙ by_phase f (λ b. Permit 0) (is_challenged told) refl refl
own_shown setup journal session told asks.Finish s request other proper refused =
    let f = λ (p : Phase). shown_of (row_verdict setup journal session asks.Finish kinds.Finish (table_row p kinds.Finish)) in
    ap f s.phase ∙ by_phase f (λ b. Permit 0) (is_challenged told) refl refl

pub both_false : (a b : Bool) → b ≡ false → (a && b) ≡ false
both_false true b h = h
both_false false b h = refl

-- what a stranger is told is shown as it is
stranger_shown : (told : List Told) (ask : Ask) → is_proper ask ≡ true → shown_of (stranger_kind told ask) ≡ stranger_kind told ask
stranger_shown told asks.Banner h = shown_banner (list_any (told_permit kinds.Banner) told)
stranger_shown told (asks.Reply words hex) h = elim (is_challenged told) as (λ b. shown_of (cond b (Deny 16 0) (Deny 6 3)) ≡ cond b (Deny 16 0) (Deny 6 3)) [ true ↦ refl | false ↦ refl ]
stranger_shown told asks.Abandon h = elim (is_challenged told) as (λ b. shown_of (cond b (Permit 0) (Deny 6 4)) ≡ cond b (Permit 0) (Deny 6 4)) [ true ↦ refl | false ↦ refl ]
stranger_shown told (asks.ReadAt handle offset max) h = shown_use (eqb handle 0) handle 1 None refl
stranger_shown told (asks.WriteAt handle offset len) h = shown_use (eqb handle 0) handle 2 None refl
stranger_shown told (asks.Bad rule detail) h = shown_bad rule detail h
stranger_shown told _ h = refl

-- the same of an ask in any range
any_shown : (setup : Settings) (journal : List Event) (session : ℕ) (told : List Told) (ask : Ask) → Standing journal session told → came_by_frame ask ≡ true → is_challenge ask ≡ false → (is_reply ask && is_permit (own_verdict setup journal session ask)) ≡ false → shown_of (own_verdict setup journal session ask) ≡ shown_of (stranger_kind told ask)
any_shown setup journal session told (asks.Bad rule detail) s request other refused = refl
any_shown setup journal session told (asks.End why) s request other refused = absurd (false≢true request)
any_shown setup journal session told ask s request other refused = own_shown setup journal session told ask s request other refl refused ∙ sym (stranger_shown told ask refl)

-- an opening has a number of its own, so no session 0 was opened
own_number : (journal : List Event) (e : Event) (n : ℕ) → e.session ≡ n + 1 → is_own 0 opens e ≡ false
own_number journal e n h =
    let other : eqb e.session 0 ≡ false = grind (arith, nat_tests, h) in
    ap (λ b. b && opens e) other

opens_begin : (e : Event) → opens e ≡ true → (is_begin e.ask ≡ true) × (is_permit e.decision ≡ true)
opens_begin e h = and_parts (is_begin e.ask) (is_permit e.decision) h

permit_kept : (d : Decision) → is_permit d ≡ true → is_lost d ≡ false
permit_kept (Permit v) h = refl
permit_kept (Deny rule detail) h = refl
permit_kept Lost h = absurd cc

begin_is : (ask : Ask) → is_begin ask ≡ true → ask ≡ asks.Begin
begin_is asks.Begin h = refl
begin_is _ h = absurd cc

opening_number : (setup : Settings) (journal : List Event) (e : Event) → IsNext setup journal e → opens e ≡ true → e.session ≡ openings_of journal + 1
opening_number setup journal e next h =
    let both = opens_begin e h in
    let is = begin_is e.ask both.0 in
    next_session setup journal e next ∙ ap (λ a. session_of journal e.worker a e.decision) is ∙ by_permit e.decision both.1 where
      by_permit : (d : Decision) → is_permit d ≡ true → session_of journal e.worker asks.Begin d ≡ openings_of journal + 1
      by_permit (Permit v) h = session_of-begin journal e.worker v
      by_permit (Deny rule detail) h = absurd cc
      by_permit Lost h = absurd cc

pub opened_some : (setup : Settings) (journal : List Event) → IsLegal setup journal → has_event journal 0 opens ≡ false
opened_some setup journal legal = by_events setup (λ j. has_event j 0 opens ≡ false) refl more journal legal where
  more : (j : List Event) (e : Event) → IsNext setup j e → has_event j 0 opens ≡ false → has_event (j ++ e ∷ []) 0 opens ≡ false
  more j e next before = has_event-push j 0 opens e ∙ ap (λ b. b || is_own 0 opens e) before ∙ go (opens e) refl where
    go : (b : Bool) → opens e ≡ b → is_own 0 opens e ≡ false
    go true h = own_number j e (openings_of j) (opening_number setup j e next h)
    go false h = both_false (eqb e.session 0) (opens e) h

-- the verdict, by three tests
by_tests : (z o l over limit : Bool) (n q : ℕ) (d shown : Decision) → z ≡ false → over ≡ o → (o ≡ false → limit ≡ l) → (o ≡ false → l ≡ false → shown_of d ≡ shown_of shown) → shown_of (cond (z || o) (Deny 6 n) (cond l (Deny 1 q) d)) ≡ shown_of (cond over (Deny 6 n) (cond limit (Deny 1 q) shown))
by_tests true o l over limit n q d shown some a b c = absurd cc
by_tests false true l over limit n q d shown some a b c = ap (λ x. shown_of (cond x (Deny 6 n) (cond limit (Deny 1 q) shown))) (sym a)
by_tests false false true over limit n q d shown some a b c = ap (λ x. shown_of (cond x (Deny 6 n) (Deny 1 q))) (sym a) ∙ ap (λ x. shown_of (cond over (Deny 6 n) (cond x (Deny 1 q) shown))) (sym (b refl))
by_tests false false false over limit n q d shown some a b c = c refl refl ∙ ap (λ x. shown_of (cond x (Deny 6 n) shown)) (sym a) ∙ ap (λ x. shown_of (cond over (Deny 6 n) (cond x (Deny 1 q) shown))) (sym (b refl))

-- what a stranger is told of a proper ask is shown as it is
verdict_shown : (requests : ℕ) (told : List Told) (ask : Ask) → is_proper ask ≡ true → shown_of (stranger_verdict requests told ask) ≡ stranger_verdict requests told ask
unfolding stranger_verdict
verdict_shown requests told ask h = go (list_any told_end told) (eqb (length told) requests) where
  go : (a b : Bool) → shown_of (cond a (Deny 6 (request_number ask)) (cond b (Deny 1 requests) (stranger_kind told ask))) ≡ cond a (Deny 6 (request_number ask)) (cond b (Deny 1 requests) (stranger_kind told ask))
  go true b = refl
  go false true = refl
  go false false = stranger_shown told ask h

third : (z o l : Bool) (x y d : Decision) → z ≡ false → o ≡ false → l ≡ false → cond (z || o) x (cond l y d) ≡ d
third true o l x y d p q r = absurd cc
third false true l x y d p q r = absurd cc
third false false true x y d p q r = absurd cc
third false false false x y d p q r = refl

-- what is shown of an event of a stranger's session
-- an event of a stranger's session, with an ask in any range
pub record IsStrangersEvent (journal : List Event) (e : Event) : Type 0 where
  pub opened : has_event journal e.session opens ≡ true
  pub before : has_event journal e.session accepts ≡ false
  pub request : came_by_frame e.ask ≡ true
  pub other : is_challenge e.ask ≡ false
  pub refused : accepts e ≡ false
  pub kept : is_lost e.decision ≡ false

pub stranger_event : (setup : Settings) (journal : List Event) (e : Event) → IsLegal setup journal → IsNext setup journal e → IsStrangersEvent journal e → shown_of e.decision ≡ shown_of (stranger_verdict setup.requests (told_in journal e.session) e.ask)
unfolding stranger_verdict
stranger_event setup journal e legal next s =
    ap shown_of decided ∙ by_tests (eqb e.session 0) (is_over journal e.session) (eqb (ask_count journal e.session) setup.requests) (list_any told_end told) (eqb (length told) setup.requests) (request_number e.ask) setup.requests (own_verdict setup journal e.session e.ask) (stranger_kind told e.ask) nonzero (ended ∙ sym over) limit own_kind where
      told : List Told
      told = told_in journal e.session

      kept : has_lost journal ≡ false
      kept = not_then (has_lost journal) (is_lost e.decision) next.lost s.kept

      own : e.session ≡ open_session_of journal e.worker
      own = next_session setup journal e next ∙ session_of-other journal e.worker e.ask e.decision (no_begin e.ask s.request)

      some : e.session ≢ 0
      some h = false≢true (sym (opened_some setup journal legal) ∙ ap (λ n. has_event journal n opens) (sym h) ∙ s.opened)

      nonzero : eqb e.session 0 ≡ false
      nonzero = ne_eqb e.session 0 some

      decided : e.decision ≡ request_verdict setup journal e.session e.ask
      decided = next_decision setup journal e next s.kept ∙ verdict_of-request setup journal e.worker e.ask s.request ∙ ap (λ n. request_verdict setup journal n e.ask) (sym own)

      goes_on : has_event journal e.session is_ending ≡ false
      goes_on = ap (λ n. has_event journal n is_ending) own ∙ not_ended setup journal legal kept e.worker (λ h. some (own ∙ h))

      ended : list_any told_end told ≡ has_event journal e.session ends_session
      ended = has_ended e.session journal goes_on kept

      over : is_over journal e.session ≡ has_event journal e.session ends_session
      over =
          ap (λ b. not b || list_any ends_session (events_of journal e.session)) (list_any-filter opens (λ x. x.session == e.session) journal ∙ s.opened)
          ∙ list_any-filter ends_session (λ x. x.session == e.session) journal

      limit : is_over journal e.session ≡ false → eqb (length told) setup.requests ≡ eqb (ask_count journal e.session) setup.requests
      limit going = ap (λ n. eqb n setup.requests) (count_told setup journal legal e.session (sym over ∙ going))

      exported : has_event journal e.session exports ≡ false
      exported = not_then (has_event journal e.session exports) (has_event journal e.session accepts) (uses setup journal legal e.session).exported s.before

      closed : has_event journal e.session opens_file ≡ false
      closed = not_then (has_event journal e.session opens_file) (has_event journal e.session exports) (uses setup journal legal e.session).opened exported

      own_kind : is_over journal e.session ≡ false → eqb (ask_count journal e.session) setup.requests ≡ false → shown_of (own_verdict setup journal e.session e.ask) ≡ shown_of (stranger_kind told e.ask)
      own_kind going left =
          let here : e.decision ≡ own_verdict setup journal e.session e.ask = decided ∙ third (eqb e.session 0) (is_over journal e.session) (eqb (ask_count journal e.session) setup.requests) _ _ (own_verdict setup journal e.session e.ask) nonzero going left in
          any_shown setup journal e.session told e.ask
          (record {
            phase = phase_is journal e.session going exported s.before ∙ ap (λ b. cond b Challenged Pre) (sym (was_challenged journal e.session));
            banner = had_banner e.session journal;
            closed = λ handle. no_opening journal e.session handle closed;
          })
          s.request
          s.other
          (ap (λ d. is_reply e.ask && is_permit d) (sym here) ∙ s.refused)

-- the events up to and with the one at a place
pub up_to : (journal : List Event) (k : ℕ) (e : Event) → slice_get journal k ≡ Some e → take (k + 1) journal ≡ take k journal ++ e ∷ []
up_to journal k e stands = take_more journal k e (slice_get_within journal k e stands) ∙ ap (λ x. take k journal ++ x ∷ []) (get_or_from_slice_get journal k e e stands)

-- the one at a place may follow those before it
pub next_at : (setup : Settings) (journal : List Event) → IsLegal setup journal → (k : ℕ) (e : Event) → slice_get journal k ≡ Some e → IsNext setup (take k journal) e
next_at setup journal legal k e stands = subst (IsNext setup (take k journal)) (get_or_from_slice_get journal k e e stands) (legal k e (slice_get_within journal k e stands))

-- a stranger has no permitted REPLY before its ask, and its ask is none
pub none_accepted : (journal : List Event) (k : ℕ) (e : Event) → IsStrangersAsk journal k e → (has_event (take k journal) e.session accepts ≡ false) × (accepts e ≡ false)
none_accepted journal k e s =
    let both = or_parts (has_event (take k journal) e.session accepts) (is_own e.session accepts e) (sym (has_event-push (take k journal) e.session accepts e) ∙ ap (λ es. has_event es e.session accepts) (sym (up_to journal k e s.stands)) ∙ s.refused) in
    let own : eqb e.session e.session ≡ true = grind (arith, nat_tests) in
    (both.0, sym (ap (λ b. b && accepts e) own) ∙ both.1)

-- strangers are told what the stranger's verdict says
pub strangers_are_told_alike : (setup : Settings) (journal : List Event) → IsLegal setup journal → StrangersAreToldAlike setup journal
strangers_are_told_alike setup journal legal = record {
  told = λ k e s request proper.
      let lt = slice_get_within journal k e s.stands in
      let refused = none_accepted journal k e s in
      stranger_event setup (take k journal) e (IsLegal-take setup journal k (omega arith) legal) (next_at setup journal legal k e s.stands) (record { opened = s.opened; before = refused.0; request = request; other = s.other; refused = refused.1; kept = s.kept })
      ∙ verdict_shown setup.requests (told_in (take k journal) e.session) e.ask proper;
}
