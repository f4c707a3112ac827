-- What the policy decides, by what is kept of a session: its phase, its counts, the kinds that were permitted, its users and its live handles.
use Rattle.std.proofs.Common.{◌≡◌, ◌≢◌, ℕ, ◌+◌, Bool, true, false, not, ◌&&◌, ◌||◌, cond, eqb, nat_eq, nat_le, List, length, Option, Some, refl, sym, ap, ◌∙◌, arith}
use Rattle.std.specs.Prelude.{is_none, unwrap_or}
use Rattle.std.specs.List.{find, list_any}
use Rattle.std.proofs.lemmas.Bool.Decides.{nat_tests}
use Rattle.request_catalogue.specs.declared.kind.Kind.{Kind}
use Rattle.request_catalogue.specs.declared.texts.Label.{Label}
use Rattle.request_catalogue.specs.declared.texts.Name.{Name}
use Rattle.policy_model.specs.declared.account.Account.{Account}
use Rattle.policy_model.specs.declared.event.Ask.{Ask}
use Rattle.policy_model.specs.declared.event.Ask.TheVariants as asks
use Rattle.policy_model.specs.declared.event.Decision.{Decision}
use Rattle.policy_model.specs.declared.event.Decision.TheVariants.{Permit, Deny, Lost}
use Rattle.policy_model.specs.declared.event.Event.{Event}
use Rattle.policy_model.specs.declared.event.Why.{Why}
use Rattle.policy_model.specs.declared.phase.Phase.{Phase}
use Rattle.policy_model.specs.Asks.{came_by_frame, is_denied_reply, is_lost, kind_of, permits_kind, request_number}
use Rattle.policy_model.specs.Handles.{free_handle_of, handle_opening, live_handles_of}
use Rattle.policy_model.specs.Journal.{ask_count, count_of, has_event, open_session_of, openings_of}
use Rattle.policy_model.specs.Legal.{event_with, next_event, session_of}
use Rattle.policy_model.specs.Logins.{account_of, challenged_user, current_sequence, verified_user, was_decoyed}
use Rattle.policy_model.specs.Phases.{is_over, phase_of, table_row}
use Rattle.policy_model.specs.Settings.{Settings, same_label}
use Rattle.policy_model.specs.Verdict.{account_verdict, challenge_verdict, close_verdict, decoy_verdict, handle_verdict, info_verdict, kind_verdict, open_verdict, own_verdict, readings, reply_verdict, request_verdict, row_verdict, user_verdict, verdict_of}
use Rattle.policy_model.specs.Cases.{account_named, grant_verdict, grants_of, number_named, sequence_of, table_verdict, use_verdict}
use Rattle.policy_model.proofs.Verdicts.{verdict_of-request}
use Rattle.session_laws.specs.Judged.{cell_decision, closing_decision, event_by, event_session, is_free_ask, is_over_phase, opening_decision, request_decision}
use Rattle.session_laws.specs.Numbered.{IsNumbered}
use Rattle.session_laws.proofs.NeverLost.{never_lost}
use Rattle.session_laws.proofs.PhaseLemmas.{over_is}

-- 1. An opening and an end

pub opening_is : (setup : Settings) (journal : List Event) (worker session openings : ℕ) → session ≡ open_session_of journal worker → openings ≡ openings_of journal → opening_decision session openings ≡ verdict_of setup journal worker asks.Begin
unfolding verdict_of
opening_is setup journal worker session openings is opened = ap (λ s. opening_decision s openings) is ∙ ap (opening_decision (open_session_of journal worker)) opened

pub closing_is : (setup : Settings) (journal : List Event) (worker session : ℕ) (why : Why) → session ≡ open_session_of journal worker → closing_decision session ≡ verdict_of setup journal worker (asks.End why)
unfolding verdict_of
closing_is setup journal worker session why is = ap closing_decision is

-- 2. What comes before the table

by_tests : (z z' o o' l l' : Bool) (a b x y : Decision) → z ≡ z' → (z' ≡ false → o ≡ o') → (z' ≡ false → l ≡ l') → (z' ≡ false → o' ≡ false → x ≡ y) → cond (z || o) a (cond l b x) ≡ cond (z' || o') a (cond l' b y)
by_tests z true o o' l l' a b x y hz ho hl hx = rw hz refl
by_tests z false o true l l' a b x y hz ho hl hx = rw (hz, ho refl) refl
by_tests z false o false l l' a b x y hz ho hl hx = rw (hz, ho refl, hl refl, hx refl refl) refl

not_zero : (n : ℕ) → eqb n 0 ≡ false → n ≢ 0
not_zero n h e = grind (arith, nat_tests)

-- a request, by the row of the session: its phase and the asks that it made count only where there is a session
pub request_is : (setup : Settings) (journal : List Event) (worker session : ℕ) (phase : Phase) (asked : ℕ) (ask : Ask) (own : Decision) → came_by_frame ask ≡ true → session ≡ open_session_of journal worker → (session ≢ 0 → phase ≡ phase_of journal session) → (session ≢ 0 → asked ≡ ask_count journal session) → (session ≢ 0 → is_over journal session ≡ false → own ≡ own_verdict setup journal session ask) → request_decision setup.requests session phase asked ask own ≡ verdict_of setup journal worker ask
request_is setup journal worker session phase asked ask own frame is phased counted decided =
    by_tests (eqb session 0) (eqb session 0) (is_over_phase phase) (is_over journal session) (eqb asked setup.requests) (eqb (ask_count journal session) setup.requests) (Deny 6 (request_number ask)) (Deny 1 setup.requests) own (own_verdict setup journal session ask)
    refl
    (λ some. ap is_over_phase (phased (not_zero session some)) ∙ over_is journal session)
    (λ some. ap (λ n. eqb n setup.requests) (counted (not_zero session some)))
    (λ some live. decided (not_zero session some) live)
    ∙ ap (λ s. request_verdict setup journal s ask) is
    ∙ sym (verdict_of-request setup journal worker ask frame)

-- 3. The table

-- a frame that is no request breaks its own rule
pub bad_is : (setup : Settings) (journal : List Event) (session rule detail : ℕ) → own_verdict setup journal session (asks.Bad rule detail) ≡ Deny rule detail
bad_is setup journal session rule detail = refl

own_is_kind : (setup : Settings) (journal : List Event) (session : ℕ) (ask : Ask) (kind : Kind) → kind_of ask ≡ Some kind → own_verdict setup journal session ask ≡ row_verdict setup journal session ask kind (table_row (phase_of journal session) kind)
own_is_kind setup journal session asks.Begin kind h = absurd cc
own_is_kind setup journal session (asks.Bad rule detail) kind h = absurd cc
own_is_kind setup journal session (asks.End why) kind h = absurd cc
own_is_kind setup journal session ask kind h = ap (table_verdict setup journal session ask) h

by_cell : (p p' h : Bool) (a b x y : Decision) → p ≡ p' → (p' ≡ true → x ≡ y) → cond (not p) a (cond h b x) ≡ cond (not p') a (cond h b y)
by_cell p true h a b x y same decided = rw (same, decided refl) refl
by_cell p false h a b x y same decided = rw same refl

-- a request of a kind, by the phase and whether one of the kind was permitted
pub cell_is : (setup : Settings) (journal : List Event) (session : ℕ) (phase : Phase) (had : Bool) (ask : Ask) (kind : Kind) (decision : Decision) → kind_of ask ≡ Some kind → phase ≡ phase_of journal session → had ≡ has_event journal session (permits_kind kind) → ((table_row phase kind).permitted ≡ true → decision ≡ kind_verdict setup journal session ask) → cell_decision (table_row phase kind) had ask decision ≡ own_verdict setup journal session ask
cell_is setup journal session phase had ask kind decision is phased seen decided =
    by_cell (table_row phase kind).permitted (table_row phase kind).permitted ((table_row phase kind).once && had) (Deny 6 (request_number ask)) (Deny 7 (request_number ask)) decision (kind_verdict setup journal session ask) refl decided
    ∙ ap (λ b. cell_decision (table_row phase kind) b ask (kind_verdict setup journal session ask)) seen
    ∙ ap (λ p. row_verdict setup journal session ask kind (table_row p kind)) phased
    ∙ sym (own_is_kind setup journal session ask kind is)

-- 4. CHALLENGE and REPLY

pub challenge_is : (setup : Settings) (journal : List Event) (session tries : ℕ) (user : Name) (now : ℕ) (decision : Decision) → tries ≡ count_of journal session is_denied_reply → decision ≡ account_verdict setup journal session user now (account_of setup user) → cond (nat_le setup.tries tries) (Deny 8 setup.tries) decision ≡ kind_verdict setup journal session (asks.Challenge user now)
unfolding kind_verdict challenge_verdict
challenge_is setup journal session tries user now decision counted is =
    ap (λ n. cond (nat_le setup.tries n) (Deny 8 setup.tries) decision) counted
    ∙ ap (λ d. cond (nat_le setup.tries (count_of journal session is_denied_reply)) (Deny 8 setup.tries) d) is

pub decoy_reply_is : (setup : Settings) (journal : List Event) (session : ℕ) (words hex : Option ℕ) → was_decoyed journal session ≡ true → decoy_verdict (readings words hex) ≡ kind_verdict setup journal session (asks.Reply words hex)
unfolding kind_verdict reply_verdict
decoy_reply_is setup journal session words hex decoyed = rw decoyed refl

pub reply_is : (setup : Settings) (journal : List Event) (session : ℕ) (words hex : Option ℕ) (user : Name) (decision : Decision) → was_decoyed journal session ≡ false → challenged_user journal session ≡ Some user → decision ≡ user_verdict setup journal session (readings words hex) user → decision ≡ kind_verdict setup journal session (asks.Reply words hex)
unfolding kind_verdict reply_verdict
reply_is setup journal session words hex user decision no_decoy challenged is = is ∙ rw (no_decoy, challenged) refl

-- 5. What a session that is logged in asks, by the number of its account

pub export_is : (setup : Settings) (journal : List Event) (session len number : ℕ) (user : Name) (account : Account) → verified_user journal session ≡ Some user → IsNumbered setup user number account → Permit number ≡ kind_verdict setup journal session (asks.Export len)
unfolding kind_verdict
export_is setup journal session len number user account verified numbered = sym (ap (λ o. Permit (number_named setup o)) verified ∙ ap (λ o. Permit (unwrap_or o 0)) numbered.number_is)

pub info_is : (setup : Settings) (journal : List Event) (session asked number : ℕ) (user : Name) (account : Account) → verified_user journal session ≡ Some user → IsNumbered setup user number account → cond (list_any (nat_eq asked) setup.info) (Permit (current_sequence journal account)) (Deny 22 asked) ≡ kind_verdict setup journal session (asks.Info asked)
unfolding kind_verdict info_verdict
info_is setup journal session asked number user account verified numbered =
    sym (ap (λ o. cond (list_any (nat_eq asked) setup.info) (Permit (sequence_of journal (account_named setup o))) (Deny 22 asked)) verified
    ∙ ap (λ o. cond (list_any (nat_eq asked) setup.info) (Permit (sequence_of journal o)) (Deny 22 asked)) numbered.found)

pub open_is : (setup : Settings) (journal : List Event) (session mode : ℕ) (name : Label) (number : ℕ) (user : Name) (account : Account) → verified_user journal session ≡ Some user → IsNumbered setup user number account → cond (nat_le 8 (length (live_handles_of journal session))) (Deny 19 8) (grant_verdict (free_handle_of journal session) mode (find (λ g. same_label g.name name) account.grants)) ≡ kind_verdict setup journal session (asks.OpenFile mode name)
unfolding kind_verdict open_verdict
open_is setup journal session mode name number user account verified numbered =
    sym (ap (λ o. cond (nat_le 8 (length (live_handles_of journal session))) (Deny 19 8) (grant_verdict (free_handle_of journal session) mode (find (λ g. same_label g.name name) (grants_of (account_named setup o))))) verified
    ∙ ap (λ o. cond (nat_le 8 (length (live_handles_of journal session))) (Deny 19 8) (grant_verdict (free_handle_of journal session) mode (find (λ g. same_label g.name name) (grants_of o)))) numbered.found)

-- 6. Handles, and what is free where the table permits it

pub read_is : (setup : Settings) (journal : List Event) (session handle offset max : ℕ) → cond (eqb handle 0) (Permit 0) (use_verdict handle 1 (handle_opening journal session handle)) ≡ kind_verdict setup journal session (asks.ReadAt handle offset max)
unfolding kind_verdict handle_verdict
read_is setup journal session handle offset max = refl

pub write_is : (setup : Settings) (journal : List Event) (session handle offset len : ℕ) → cond (eqb handle 0) (Permit 0) (use_verdict handle 2 (handle_opening journal session handle)) ≡ kind_verdict setup journal session (asks.WriteAt handle offset len)
unfolding kind_verdict handle_verdict
write_is setup journal session handle offset len = refl

pub close_is : (setup : Settings) (journal : List Event) (session handle : ℕ) → cond (eqb handle 0 || is_none (handle_opening journal session handle)) (Deny 17 handle) (Permit 0) ≡ kind_verdict setup journal session (asks.CloseFile handle)
unfolding kind_verdict close_verdict
close_is setup journal session handle = refl

pub free_is : (setup : Settings) (journal : List Event) (session : ℕ) (ask : Ask) → is_free_ask ask ≡ true → Permit 0 ≡ kind_verdict setup journal session ask
unfolding kind_verdict
free_is setup journal session asks.Banner h = refl
free_is setup journal session asks.Abandon h = refl
free_is setup journal session asks.Import h = refl
free_is setup journal session (asks.Note text) h = refl
free_is setup journal session asks.Finish h = refl
free_is setup journal session _ h = absurd cc

-- 7. The event that follows

session_is : (journal : List Event) (worker session openings : ℕ) (ask : Ask) (decision : Decision) → session ≡ open_session_of journal worker → openings ≡ openings_of journal → is_lost decision ≡ false → event_session session openings ask decision ≡ session_of journal worker ask decision
unfolding session_of
session_is journal worker session openings asks.Begin (Permit value) is opened kept = ap (λ n. n + 1) opened
session_is journal worker session openings asks.Begin (Deny rule detail) is opened kept = is
session_is journal worker session openings asks.Begin Lost is opened kept = absurd cc
session_is journal worker session openings _ decision is opened kept = is

pub event_is : (setup : Settings) (journal : List Event) (worker session openings : ℕ) (ask : Ask) (decision : Decision) → session ≡ open_session_of journal worker → openings ≡ openings_of journal → decision ≡ verdict_of setup journal worker ask → event_by worker session openings ask decision ≡ next_event setup journal worker ask
event_is setup journal worker session openings ask decision is opened decided =
    let kept : is_lost decision ≡ false = ap is_lost decided ∙ never_lost setup journal worker ask in
    ap (λ (n : ℕ). let e : Event = record { worker = worker; session = n; ask = ask; decision = decision } in e) (session_is journal worker session openings ask decision is opened kept)
    ∙ ap (event_with journal worker ask) decided
