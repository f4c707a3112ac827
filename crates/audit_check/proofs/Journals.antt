-- The text of a run's journal is a legal log.
use Rattle.std.proofs.Common.{◌≡◌, ℕ, ◌+◌, ◌<◌, ◌≤◌, Bool, true, false, not, ◌&&◌, cond, List, [], ◌∷◌, ◌++◌, length, map, refl, sym, ap, subst, ◌∙◌, arith}
use Rattle.std.specs.Prelude.{IfOk, Result}
use Rattle.std.specs.List.{AllByRecursion}
use Rattle.std.specs.declared.alloc.AllocError.{AllocError}
use Rattle.std.proofs.lemmas.Bool.{false≢true, or_parts}
use Rattle.std.proofs.lemmas.List.{append-nil, length-map, map-append}
use Rattle.policy_model.specs.declared.event.Ask.{Ask}
use Rattle.policy_model.specs.declared.event.Ask.TheVariants as asks
use Rattle.policy_model.specs.declared.event.Decision.{Decision}
use Rattle.policy_model.specs.declared.event.Event.{Event}
use Rattle.policy_model.specs.declared.ranges.TheConstants.{EVENTS_LIMIT}
use Rattle.policy_model.specs.Asks.{is_lost, shown_of}
use Rattle.policy_model.specs.Cases.{is_reply}
use Rattle.policy_model.specs.Journal.{has_lost, kept_events, open_session_of}
use Rattle.policy_model.specs.Legal.{IsLegal, IsNext, session_of}
use Rattle.policy_model.specs.Runs.{IsOfWorker}
use Rattle.policy_model.specs.Settings.{Settings}
use Rattle.policy_model.specs.Verdict.{verdict_of}
use Rattle.policy_laws.specs.Strangers.{without_readings}
use Rattle.policy_model.proofs.Lists.{filter-push}
use Rattle.policy_model.proofs.Runs.{next_decision, next_session}
use Rattle.session_laws.proofs.ByEvents.{by_events}
use Rattle.decision_log.specs.Log.{line_of, lines_after, log_text}
use Rattle.decision_log.specs.LineTexts.{line_text}
use Rattle.decision_log.specs.Values.{AskValue, IsLine, LineValue, ask_value, line_value}
use Rattle.audit_check.specs.declared.answer.Audit.{Audit}
use Rattle.audit_check.specs.declared.answer.Audit.TheVariants as audits
use Rattle.audit_check.specs.Events.{shown_event}
use Rattle.audit_check.specs.Legal.{IsDecided, IsLegalLog, MayFollow, is_open, may_be_decided, readings_decide}
use Rattle.audit_check.proofs.Alike.{Alike, alike_decide, alike_map, alike_may, alike_open, alike_session, alike_verdict}
use Rattle.audit_check.proofs.Fronts.{legal_none, legal_push}
use Rattle.audit_check.proofs.Replies.{given_may, reply_is}
use Rattle.audit_check.specs.Said.{AreSaid, IsLogOf}
use Rattle.audit_check.specs.Written.{IsJournalOf}
use Rattle.decision_log.proofs.EventLines.{line_is}
use Rattle.decision_log.proofs.Writable.{IsWritable, kept_writable, line_ask}

-- 1. What is shown of an event

without_twice : (a : Ask) → without_readings (without_readings a) ≡ without_readings a
without_twice (asks.Reply words hex) = refl
without_twice _ = refl

abbrev with_ask : Event → Ask → Event
with_ask e a = record { worker = e.worker; session = e.session; ask = a; decision = shown_of e.decision }

shown_alike : (events : List Event) → Alike (map shown_event events) events
shown_alike events = alike_map shown_event (λ e. ap (with_ask e) (without_twice e.ask)) events

value_shown : (a : Ask) → ask_value (without_readings a) ≡ ask_value a
value_shown (asks.Reply words hex) = refl
value_shown _ = refl

session_shown : (before : List Event) (worker : ℕ) (a : Ask) (d : Decision) → session_of before worker (without_readings a) d ≡ session_of before worker a d
unfolding session_of
session_shown before worker (asks.Reply words hex) d = refl
session_shown before worker _ d = refl

-- 2. An event that follows a journal, in the log

abbrev event_of : ℕ → ℕ → Ask → Decision → Event
event_of worker session ask decision = record { worker = worker; session = session; ask = ask; decision = decision }

-- its decision
decided_shown : (setup : Settings) (before : List Event) (worker session : ℕ) (a : Ask) (d : Decision) → d ≡ verdict_of setup before worker a → IsDecided setup before (shown_event (event_of worker session a d))
decided_shown setup before worker session (asks.Reply words hex) d given = record {
  decided = λ closed. given ∙ ((reply_is setup before worker words hex).closed closed).0;
  undecided = λ free. ap (may_be_decided setup before (open_session_of before worker)) given ∙ given_may setup before worker words hex free;
}
decided_shown setup before worker session a d given = record { decided = λ closed. given; undecided = λ free. absurd cc }

-- over lists of which the same is shown
pub alike_decided : (setup : Settings) (xs ys : List Event) → Alike xs ys → (e : Event) → IsDecided setup ys e → IsDecided setup xs e
alike_decided setup xs ys h e d = record {
  decided = λ closed. d.decided (sym same ∙ closed) ∙ sym (alike_verdict setup xs ys h e.worker e.ask);
  undecided = λ free. alike_may setup xs ys h (open_session_of xs e.worker) e.decision ∙ ap (λ s. may_be_decided setup ys s e.decision) (alike_open xs ys h e.worker) ∙ d.undecided (sym same ∙ free);
} where
  same : is_open setup xs e ≡ is_open setup ys e
  same = ap (λ b. is_reply e.ask && b) (alike_decide setup xs ys h (open_session_of xs e.worker) ∙ ap (readings_decide setup ys) (alike_open xs ys h e.worker))

follows_shown : (setup : Settings) (before : List Event) (e : Event) → IsNext setup before e → is_lost e.decision ≡ false → e.worker < setup.workers → MayFollow setup (map shown_event before) (shown_event e)
follows_shown setup before e next kept worker = record {
  worker = worker;
  session =
      next_session setup before e next
      ∙ sym (session_shown before e.worker e.ask e.decision)
      ∙ sym (alike_session (map shown_event before) before (shown_alike before) e.worker (without_readings e.ask) e.decision);
  decision = alike_decided setup (map shown_event before) before (shown_alike before) (shown_event e) (decided_shown setup before e.worker e.session e.ask e.decision (next_decision setup before e next kept));
}

-- 3. The kept events of a legal journal

all_kept : (journal : List Event) → has_lost journal ≡ false → kept_events journal ≡ journal
all_kept [] h = refl
all_kept (e ∷ journal) h =
    let both = or_parts (is_lost e.decision) (has_lost journal) h in
    ap (λ b. cond (not b) (e ∷ kept_events journal) (kept_events journal)) both.0 ∙ ap (λ xs. e ∷ xs) (all_kept journal both.1)

all_front : (setup : Settings) (journal : List Event) (e : Event) → AllByRecursion (IsOfWorker setup) (journal ++ e ∷ []) → AllByRecursion (IsOfWorker setup) journal × IsOfWorker setup e
all_front setup [] e all = (tt, all.0)
all_front setup (x ∷ xs) e all = let rest = all_front setup xs e all.1 in ((all.0, rest.0), rest.1)

pub shown_legal : (setup : Settings) (journal : List Event) → IsLegal setup journal → AllByRecursion (IsOfWorker setup) journal → IsLegalLog setup (map shown_event (kept_events journal))
shown_legal setup journal legal = by_events setup (λ j. AllByRecursion (IsOfWorker setup) j → IsLegalLog setup (map shown_event (kept_events j))) (λ all. legal_none setup) more journal legal where
  more : (j : List Event) (e : Event) → IsNext setup j e → (AllByRecursion (IsOfWorker setup) j → IsLegalLog setup (map shown_event (kept_events j))) → AllByRecursion (IsOfWorker setup) (j ++ e ∷ []) → IsLegalLog setup (map shown_event (kept_events (j ++ e ∷ [])))
  more j e next before all =
      let parts = all_front setup j e all in
      subst (λ xs. IsLegalLog setup (map shown_event xs)) (sym (filter-push (λ x. not (is_lost x.decision)) j e)) (go (is_lost e.decision) refl (before parts.0) parts.1) where
        lost_none : is_lost e.decision ≡ false → has_lost j ≡ false
        lost_none kept = by (has_lost j) refl where
          by : (b : Bool) → has_lost j ≡ b → b ≡ false
          by true h = absurd (false≢true (sym kept ∙ next.lost h))
          by false h = refl

        go : (b : Bool) → is_lost e.decision ≡ b → IsLegalLog setup (map shown_event (kept_events j)) → IsOfWorker setup e → IsLegalLog setup (map shown_event (kept_events j ++ cond (not b) (e ∷ []) []))
        go true lost front of = subst (λ xs. IsLegalLog setup (map shown_event xs)) (sym (append-nil (kept_events j))) front
        go false kept front of =
            let whole : kept_events j ≡ j = all_kept j (lost_none kept) in
            subst (IsLegalLog setup) (sym (map-append shown_event (kept_events j) (e ∷ [])))
            (legal_push setup (map shown_event (kept_events j)) (shown_event e) front (subst (λ xs. MayFollow setup (map shown_event xs) (shown_event e)) (sym whole) (follows_shown setup j e next kept of.below)))

-- 4. Its text

value_line : (number : ℕ) (e : Event) → line_value number (shown_event e) ≡ line_value number e
value_line number e = ap (line_with number e) (value_shown e.ask) where
  line_with : ℕ → Event → AskValue → LineValue
  line_with number e a = record { number = number; worker = e.worker; session = e.session; ask = a; decision = e.decision }

shown_lines : (count : ℕ) (events : List Event) → lines_after count (map shown_event events) ≡ lines_after count events
shown_lines count [] = refl
shown_lines count (e ∷ events) = ap (λ t. t ++ lines_after (count + 1) (map shown_event events)) (line_is (count + 1) (shown_event e) ∙ ap line_text (value_line (count + 1) e) ∙ sym (line_is (count + 1) e)) ∙ ap (λ t. line_of (count + 1) e ++ t) (shown_lines (count + 1) events)

shown_said : (count : ℕ) (events : List Event) → count + length events ≤ EVENTS_LIMIT → AllByRecursion IsWritable events → AreSaid count (map shown_event events)
shown_said count [] few all = tt
shown_said count (e ∷ events) few all =
    let w = all.0 in
    let line : IsLine (line_value (count + 1) e) = record { number = omega (arith, few); worker = w.typed.worker; session = w.typed.session; ask = line_ask e.ask w.typed.ask; decision = w.shown } in
    (subst IsLine (sym (value_line (count + 1) e)) line, without_twice e.ask, shown_said (count + 1) events (omega (arith, few)) all.1)

kept_few : (journal : List Event) → length (kept_events journal) ≤ length journal
kept_few [] = omega arith
kept_few (e ∷ journal) = go (not (is_lost e.decision)) (kept_few journal) where
  go : (b : Bool) → length (kept_events journal) ≤ length journal → length (cond b (e ∷ kept_events journal) (kept_events journal)) ≤ length (e ∷ journal)
  go true h = omega (arith, h)
  go false h = omega (arith, h)

pub journal_log : (setup : Settings) (journal : List Event) → IsJournalOf setup journal → IsLogOf setup (log_text journal) (map shown_event (kept_events journal))
journal_log setup journal is = record {
  spelled = sym (shown_lines 0 (kept_events journal));
  legal = shown_legal setup journal is.legal is.workers;
  few = omega (arith, length-map (kept_events journal) shown_event, kept_few journal, is.few);
  said = shown_said 0 (kept_events journal) (omega (arith, kept_few journal, is.few)) (kept_writable setup journal is.legal is.proper is.typed);
}

-- what is answered of it
pub journal_answer : (setup : Settings) (text : List ℕ) (r : Result Audit AllocError) → ((events : List Event) → IsLogOf setup text events → IfOk r (λ a. a ≡ audits.Yes (length events))) → (journal : List Event) → IsJournalOf setup journal → text ≡ log_text journal → IfOk r (λ a. a ≡ audits.Yes (length (kept_events journal)))
journal_answer setup text r only journal is spelled =
    subst (λ n. IfOk r (λ a. a ≡ audits.Yes n)) (length-map (kept_events journal) shown_event)
    (only (map shown_event (kept_events journal)) (subst (λ t. IsLogOf setup t (map shown_event (kept_events journal))) (sym spelled) (journal_log setup journal is)))
