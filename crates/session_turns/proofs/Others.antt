-- What the events of others leave of a worker's session.
use Rattle.std.proofs.Common.{◌≡◌, ◌≢◌, ◌⊎◌, inl, inr, ℕ, ◌+◌, ◌<◌, Bool, true, false, ◌||◌, cond, eqb, List, [], ◌∷◌, ◌++◌, length, take, get_or, refl, sym, ap, subst, ◌∙◌, arith, eq-eqb, append-nil, append_assoc, length-append}
use Rattle.std.proofs.lemmas.Bool.{false≢true}
use Rattle.std.proofs.Math.Seq.{get_or-append_seam, take-append_seam}
use Rattle.std.specs.List.{AllByRecursion}
use Rattle.policy_model.specs.declared.event.Ask.{Ask}
use Rattle.policy_model.specs.declared.event.Ask.TheVariants as asks
use Rattle.policy_model.specs.declared.event.Decision.{Decision}
use Rattle.policy_model.specs.declared.event.Decision.TheVariants.{Permit, Deny, Lost}
use Rattle.policy_model.specs.declared.event.Event.{Event}
use Rattle.policy_model.specs.Asks.{exports, is_lost, is_proper}
use Rattle.policy_model.specs.Journal.{open_session_of, openings_of}
use Rattle.policy_model.specs.Legal.{IsNext, session_of}
use Rattle.policy_model.specs.Runs.{IsIdle, IsOfWorker, IsProperEvent, IsRun}
use Rattle.policy_model.specs.Settings.{Settings}
use Rattle.policy_model.proofs.Runs.{IsRun-push, has_lost-push, next_session}
use Rattle.policy_model.proofs.Sessions.{open_session_of-le}
use Rattle.session_laws.specs.Opened.{AreApart}
use Rattle.session_laws.proofs.ByEvents.{some_event}
use Rattle.session_laws.proofs.HandleSteps.{live_handles_of-other}
use Rattle.session_laws.proofs.Openings.{legal_apart, open_session-other}
use Rattle.session_laws.proofs.SessionEvents.{ask_count-other, has_event-other}
use Rattle.session_laws.proofs.UserLemmas.{verified_user-other}
use Rattle.service_model.proofs.Places.{worker_places-other}
use Rattle.session_turns.specs.Joins.{OthersJoined, SessionStays}
use Rattle.session_turns.proofs.Places.{own}

-- 1. An event within a run

all_middle : {X : Type 0} (P : X → Type 0) (front : List X) (x : X) (back : List X) → AllByRecursion P (front ++ x ∷ back) → P x
all_middle P [] x back all = all.0
all_middle P (y ∷ ys) x back all = all_middle P ys x back all.1

-- it may follow those before it, its ask is proper, and its worker is one of the setup's
pub record IsEventOf (setup : Settings) (before : List Event) (e : Event) : Type 0 where
  pub next : IsNext setup before e
  pub proper : is_proper e.ask ≡ true
  pub below : e.worker < setup.workers

pub event_at : (setup : Settings) (before : List Event) (e : Event) (back : List Event) → IsRun setup (before ++ e ∷ back) → IsEventOf setup before e
event_at setup before e back run =
    let all : List Event = before ++ e ∷ back in
    let lt : length before < length all = omega (arith, length-append before (e ∷ back)) in
    let at : IsNext setup (take (length before) all) (get_or all (length before) some_event) = run.legal (length before) some_event lt in
    let proper = all_middle IsProperEvent before e back run.proper in
    let own = all_middle (IsOfWorker setup) before e back run.workers in
    record {
      next = subst (IsNext setup before) (get_or-append_seam before e back some_event) (subst (λ j. IsNext setup j (get_or all (length before) some_event)) (take-append_seam before (e ∷ back)) at);
      proper = proper.proper;
      below = own.below;
    }

-- 2. The event of another worker is of another session

session_among : (journal : List Event) (worker : ℕ) (ask : Ask) (d : Decision) → (session_of journal worker ask d ≡ 0) ⊎ ((session_of journal worker ask d ≡ open_session_of journal worker) ⊎ (session_of journal worker ask d ≡ openings_of journal + 1))
unfolding session_of
session_among journal worker asks.Begin (Permit value) = inr (inr refl)
session_among journal worker asks.Begin (Deny rule detail) = inr (inl refl)
session_among journal worker asks.Begin Lost = inl refl
session_among journal worker _ d = inr (inl refl)

-- than the one that a worker has open
foreign : (setup : Settings) (journal : List Event) (e : Event) (worker : ℕ) → IsRun setup journal → IsNext setup journal e → e.worker ≢ worker → open_session_of journal worker ≢ 0 → e.session ≢ open_session_of journal worker
foreign setup journal e worker run next ne some same = go (session_among journal e.worker e.ask e.decision) where
  is : e.session ≡ session_of journal e.worker e.ask e.decision
  is = next_session setup journal e next

  go : (session_of journal e.worker e.ask e.decision ≡ 0) ⊎ ((session_of journal e.worker e.ask e.decision ≡ open_session_of journal e.worker) ⊎ (session_of journal e.worker e.ask e.decision ≡ openings_of journal + 1)) → ⊥
  go (inl none) = some (sym same ∙ is ∙ none)
  go (inr (inl open_one)) =
      let a : AreApart journal = legal_apart setup journal run.legal in
      a.apart worker e.worker (λ h. ne (sym h)) some (sym same ∙ is ∙ open_one)
  go (inr (inr new)) =
      let le = open_session_of-le journal worker (openings_of journal) run.numbered in
      let number : e.session ≡ openings_of journal + 1 = is ∙ new in
      absurd (omega (arith, le, number, same))

one_stays : (journal : List Event) (e : Event) (session : ℕ) → e.session ≢ session → SessionStays session journal (journal ++ e ∷ [])
one_stays journal e session other = record {
  asks = ask_count-other journal e session other;
  exported = has_event-other journal e session exports other;
  user = verified_user-other journal e session other;
  files = live_handles_of-other journal e session other;
}

-- 3. Session by session

pub stays_none : (session : ℕ) (journal : List Event) → SessionStays session journal journal
stays_none session journal = record { asks = refl; exported = refl; user = refl; files = refl }

pub stays_then : (session : ℕ) (a b c : List Event) → SessionStays session a b → SessionStays session b c → SessionStays session a c
stays_then session a b c p q = record {
  asks = q.asks ∙ p.asks;
  exported = q.exported ∙ p.exported;
  user = q.user ∙ p.user;
  files = q.files ∙ p.files;
}

-- 4. Event by event

pub others_none : (setup : Settings) (worker : ℕ) (journal : List Event) → IsRun setup journal → OthersJoined setup worker journal journal
others_none setup worker journal run = record {
  run = run;
  places = refl;
  opened = refl;
  stays = λ some. stays_none (open_session_of journal worker) journal;
  idle = λ idle. idle;
}

still_idle : (worker : ℕ) (old new : List Event) (e : Event) → open_session_of (new ++ e ∷ []) worker ≡ open_session_of old worker → (IsIdle old worker → IsIdle new worker) → open_session_of new worker ≡ open_session_of old worker → IsIdle old worker → IsIdle (new ++ e ∷ []) worker
still_idle worker old new e opened before same idle = go (before idle) where
  go : IsIdle new worker → IsIdle (new ++ e ∷ []) worker
  go (inl none) = inl (opened ∙ sym same ∙ none)
  go (inr lost) = inr (has_lost-push new e ∙ ap (λ b. b || is_lost e.decision) lost)

-- another worker's event is one more of the others'
pub others_push : (setup : Settings) (worker : ℕ) (old new : List Event) (e : Event) → OthersJoined setup worker old new → IsEventOf setup new e → e.worker ≢ worker → OthersJoined setup worker old (new ++ e ∷ [])
others_push setup worker old new e joined is ne =
    let opened : open_session_of (new ++ e ∷ []) worker ≡ open_session_of old worker = open_session-other new e worker (λ h. ne (sym h)) ∙ joined.opened in
    record {
      run = IsRun-push setup new e joined.run is.next is.proper is.below;
      places = worker_places-other worker new e ne ∙ joined.places;
      opened = opened;
      stays = λ some.
          let apart = foreign setup new e worker joined.run is.next ne (λ none. some (sym joined.opened ∙ none)) in
          stays_then (open_session_of old worker) old new (new ++ e ∷ []) (joined.stays some) (one_stays new e (open_session_of old worker) (λ same. apart (same ∙ sym joined.opened)));
      idle = still_idle worker old new e opened joined.idle joined.opened;
    }

others_more : (setup : Settings) (worker : ℕ) (old new rest back : List Event) → OthersJoined setup worker old new → IsRun setup (new ++ (rest ++ back)) → own worker rest ≡ [] → OthersJoined setup worker old (new ++ rest)
others_more setup worker old new [] back joined run none = subst (OthersJoined setup worker old) (sym (append-nil new)) joined
others_more setup worker old new (e ∷ es) back joined run none =
    let later : e.worker ≢ worker → own worker es ≡ [] → OthersJoined setup worker old ((new ++ e ∷ []) ++ es) = λ ne rest.
    let more = others_push setup worker old new e joined (event_at setup new e (es ++ back) run) ne in
    others_more setup worker old (new ++ e ∷ []) es back more (subst (IsRun setup) (sym (append_assoc new (e ∷ []) (es ++ back))) run) rest in
    subst (OthersJoined setup worker old) (append_assoc new (e ∷ []) es) (go (eqb e.worker worker) refl none later) where
      go : (b : Bool) → eqb e.worker worker ≡ b → cond b (e ∷ own worker es) (own worker es) ≡ [] → (e.worker ≢ worker → own worker es ≡ [] → OthersJoined setup worker old ((new ++ e ∷ []) ++ es)) → OthersJoined setup worker old ((new ++ e ∷ []) ++ es)
      go true is h later = absurd cc
      go false is h later = later (λ same. false≢true (sym is ∙ eq-eqb e.worker worker same)) h

-- where a run goes on without a worker for a while, others' events joined
pub others_joined : (setup : Settings) (worker : ℕ) (old rest back : List Event) → IsRun setup old → IsRun setup (old ++ (rest ++ back)) → own worker rest ≡ [] → OthersJoined setup worker old (old ++ rest)
others_joined setup worker old rest back run more none = others_more setup worker old old rest back (others_none setup worker old run) more none
