-- A worker's open session from one event of the worker to the next.
use Rattle.std.proofs.Common.{◌≡◌, ◌≢◌, ℕ, ◌+◌, ◌<◌, Bool, true, false, ◌&&◌, ◌||◌, cond, eqb, List, [], ◌∷◌, ◌++◌, length, get_or, refl, sym, ap, subst, ◌∙◌, append_assoc, arith, eq-eqb}
use Rattle.std.proofs.lemmas.Bool.{eqb-true}
use Rattle.std.proofs.lemmas.List.{take_at, length-append}
use Rattle.std.proofs.Math.Seq.{get_or-append_seam}
use Rattle.service_model.specs.Cases.{place_of, worker_places_after}
use Rattle.request_catalogue.specs.declared.kind.Kind.{Kind}
use Rattle.policy_model.specs.declared.event.Event.{Event}
use Rattle.policy_model.specs.declared.phase.Phase.{Phase}
use Rattle.policy_model.specs.declared.phase.Phase.TheVariants.{Pre}
use Rattle.policy_model.specs.Asks.{came_by_frame, is_denied_reply, is_lost, is_permit, opens, permits_kind}
use Rattle.policy_model.specs.Journal.{Place, ask_count, count_of, has_event, has_lost, open_session_of}
use Rattle.policy_model.specs.Legal.{IsLegal, IsNext}
use Rattle.policy_model.specs.Phases.{phase_of}
use Rattle.policy_model.specs.Settings.{Settings}
use Rattle.policy_model.proofs.Legal.{IsLegal-push}
use Rattle.policy_model.proofs.Runs.{next_session, no_begin, stays_open}
use Rattle.session_laws.specs.Phased.{phase_after}
use Rattle.session_laws.proofs.Opened.{fresh}
use Rattle.session_laws.proofs.Openings.{legal_apart, legal_numbered, not_of_other, open_session-opened, open_session-other, session_new, session_own}
use Rattle.session_laws.proofs.PhaseLemmas.{phase_of-other, phase_of-own}
use Rattle.session_laws.proofs.SessionEvents.{ask_count-other, ask_count-own, count_of-other, count_of-own, has_event-other, has_event-own}

-- ---- where a session stands

-- its phase, how many asks it made, how many replies of it were denied, and of which kinds a request was permitted
pub record State : Type 0 where
  pub phase : Phase
  pub asked : ℕ
  pub tried : ℕ
  pub had : Kind → Bool

-- what a request makes of it
abbrev pub after : State → Event → State
after s e = record {
  phase = phase_after s.phase e;
  asked = s.asked + 1;
  tried = s.tried + cond (is_denied_reply e) 1 0;
  had = λ kind. s.had kind || permits_kind kind e;
}

-- a worker's open session stands so
pub record At (setup : Settings) (worker session : ℕ) (before : List Event) (s : State) : Type 0 where
  pub legal : IsLegal setup before
  pub opened : open_session_of before worker ≡ session
  pub some : session ≢ 0
  pub phased : phase_of before session ≡ s.phase
  pub counted : ask_count before session ≡ s.asked
  pub tries : count_of before session is_denied_reply ≡ s.tried
  pub bits : (kind : Kind) → has_event before session (permits_kind kind) ≡ s.had kind

-- an event that follows, and wasn't lost
pub record Comes (setup : Settings) (before : List Event) (e : Event) : Type 0 where
  pub next : IsNext setup before e
  pub kept : is_lost e.decision ≡ false

abbrev pub start : State
start = record { phase = Pre; asked = 0; tried = 0; had = λ kind. false }

-- after its opening
pub begun : (setup : Settings) (before : List Event) (e : Event) → IsLegal setup before → Comes setup before e → opens e ≡ true → At setup e.worker e.session (before ++ e ∷ []) start
begun setup before e legal comes opened =
    let f = fresh setup before e legal comes.next opened in
    let number = session_new before e (next_session setup before e comes.next) opened in
    record {
      legal = IsLegal-push setup before e legal comes.next;
      opened = open_session-opened before e opened;
      some = λ zero. absurd (omega (arith, number, zero));
      phased = f.phase;
      counted = f.asked;
      tries = f.tries;
      bits = f.bits;
    }

no_opening : (e : Event) → came_by_frame e.ask ≡ true → opens e ≡ false
no_opening e request = ap (λ (b : Bool). b && is_permit e.decision) (no_begin e.ask request)

-- the session of a request
pub own_session : (setup : Settings) (worker session : ℕ) (before : List Event) (s : State) (e : Event) → At setup worker session before s → Comes setup before e → e.worker ≡ worker → opens e ≡ false → e.session ≡ session
own_session setup worker session before s e at comes own closed =
    session_own before e (next_session setup before e comes.next) comes.kept closed ∙ ap (open_session_of before) own ∙ at.opened

-- after a request of its own
pub goes_on : (setup : Settings) (worker session : ℕ) (before : List Event) (s : State) (e : Event) → At setup worker session before s → Comes setup before e → e.worker ≡ worker → came_by_frame e.ask ≡ true → At setup worker session (before ++ e ∷ []) (after s e)
goes_on setup worker session before s e at comes own request =
    let closed = no_opening e request in
    let its = own_session setup worker session before s e at comes own closed in
    record {
      legal = IsLegal-push setup before e at.legal comes.next;
      opened = stays_open before e worker request ∙ at.opened;
      some = at.some;
      phased = phase_of-own before e session its closed ∙ ap (λ p. phase_after p e) at.phased;
      counted = ask_count-own before e session its ∙ ap (λ b. ask_count before session + cond b 1 0) request ∙ ap (λ n. n + 1) at.counted;
      tries = count_of-own before e session is_denied_reply its ∙ ap (λ n. n + cond (is_denied_reply e) 1 0) at.tries;
      bits = λ kind. has_event-own before e session (permits_kind kind) its ∙ ap (λ b. b || permits_kind kind e) (at.bits kind);
    }

-- after an event of another worker
pub stays : (setup : Settings) (worker session : ℕ) (s : State) (before : List Event) (e : Event) → Comes setup before e → e.worker ≢ worker → At setup worker session before s → At setup worker session (before ++ e ∷ []) s
stays setup worker session s before e comes other at =
    let apart : worker ≢ e.worker = λ same. other (sym same) in
    let has_one : open_session_of before worker ≢ 0 = λ zero. at.some (sym at.opened ∙ zero) in
    let not_its : e.session ≢ open_session_of before worker = not_of_other before e worker (legal_numbered setup before at.legal) (legal_apart setup before at.legal) (next_session setup before e comes.next) comes.kept apart has_one in
    let not_own : e.session ≢ session = λ same. not_its (same ∙ sym at.opened) in
    record {
      legal = IsLegal-push setup before e at.legal comes.next;
      opened = open_session-other before e worker apart ∙ at.opened;
      some = at.some;
      phased = phase_of-other before e session not_own ∙ at.phased;
      counted = ask_count-other before e session not_own ∙ at.counted;
      tries = count_of-other before e session is_denied_reply not_own ∙ at.tries;
      bits = λ kind. has_event-other before e session (permits_kind kind) not_own ∙ at.bits kind;
    }

-- ---- a worker's places in a journal

-- a journal begins so, and these are the worker's places after that
pub record Stands (journal : List Event) (worker : ℕ) (before : List Event) (places : List Place) : Type 0 where
  pub rest : List Event
  pub parts : journal ≡ before ++ rest
  pub are : worker_places_after worker before rest ≡ places

-- the next place of the worker
pub record Next (setup : Settings) (journal : List Event) (worker : ℕ) (P : List Event → Type 0) (p : Place) (places : List Place) : Type 0 where
  pub holds : P p.before
  pub comes : Comes setup p.before p.event
  pub own : p.event.worker ≡ worker
  pub behind : Stands journal worker (p.before ++ p.event ∷ []) places

front_next : (setup : Settings) (before rest : List Event) (e : Event) → IsLegal setup (before ++ e ∷ rest) → IsNext setup before e
front_next setup before rest e legal =
    let within : length before < length (before ++ e ∷ rest) = omega (arith, length-append before (e ∷ rest)) in
    let next = legal (length before) e within in
    subst (λ x. IsNext setup before x) (get_or-append_seam before e rest e) (subst (λ l. IsNext setup l (get_or (before ++ e ∷ rest) (length before) e)) (take_at before (e ∷ rest) (length before) refl) next)

all_kept : (before rest : List Event) (e : Event) → has_lost (before ++ e ∷ rest) ≡ false → is_lost e.decision ≡ false
all_kept [] rest e none = first (is_lost e.decision) (has_lost rest) none where
  first : (a b : Bool) → (a || b) ≡ false → a ≡ false
  first false b h = refl
  first true b h = absurd cc
all_kept (x ∷ before) rest e none = all_kept before rest e (second (is_lost x.decision) (has_lost (before ++ e ∷ rest)) none) where
  second : (a b : Bool) → (a || b) ≡ false → b ≡ false
  second false b h = h
  second true b h = absurd cc

-- what others leave holds at the worker's next place
module _ (setup : Settings) (journal : List Event) (worker : ℕ) (legal : IsLegal setup journal) (none : has_lost journal ≡ false) (P : List Event → Type 0) (left : (before : List Event) (e : Event) → Comes setup before e → e.worker ≢ worker → P before → P (before ++ e ∷ [])) where
  walk : (rest before : List Event) (p : Place) (places : List Place) → P before → journal ≡ before ++ rest → worker_places_after worker before rest ≡ p ∷ places → Next setup journal worker P p places
  walk [] before p places holds parts are = absurd cc
  walk (e ∷ rest) before p places holds parts are = by_worker (eqb e.worker worker) refl are (λ other. walk rest (before ++ e ∷ []) p places (left before e comes other holds) longer) where
    comes : Comes setup before e
    comes = record { next = front_next setup before rest e (subst (IsLegal setup) parts legal); kept = all_kept before rest e (subst (λ j. has_lost j ≡ false) parts none) }

    longer : journal ≡ (before ++ e ∷ []) ++ rest
    longer = parts ∙ sym (append_assoc before (e ∷ []) rest)

    by_worker : (b : Bool) → eqb e.worker worker ≡ b → cond b (place_of before e ∷ worker_places_after worker (before ++ e ∷ []) rest) (worker_places_after worker (before ++ e ∷ []) rest) ≡ p ∷ places
        → (e.worker ≢ worker → worker_places_after worker (before ++ e ∷ []) rest ≡ p ∷ places → Next setup journal worker P p places) → Next setup journal worker P p places
    by_worker true its are' others =
        let here : place_of before e ≡ p = cc in
        let behind : worker_places_after worker (before ++ e ∷ []) rest ≡ places = cc in
        subst (λ q. Next setup journal worker P q places) here (record {
          holds = holds;
          comes = comes;
          own = eqb-true e.worker worker its;
          behind = record { rest = rest; parts = longer; are = behind };
        })
    by_worker false its are' others = others (λ same. let yes = eq-eqb e.worker worker same in absurd cc) are'

  pub next_place : (before : List Event) (p : Place) (places : List Place) → P before → Stands journal worker before (p ∷ places) → Next setup journal worker P p places
  next_place before p places holds stands = walk stands.rest before p places holds stands.parts stands.are
