-- A book's history goes on by one event.
use Rattle.std.proofs.Common.{◌≡◌, ℕ, suc, ◌<◌, ◌≤◌, Bool, true, false, ◌||◌, not, cond, List, [], ◌∷◌, ◌++◌, length, refl, sym, ap, subst, ◌∙◌, arith}
use Rattle.std.specs.Prelude.{filter}
use Rattle.std.specs.List.{AllByRecursion}
use Rattle.std.proofs.lemmas.Bool.{false≢true}
use Rattle.policy_model.specs.declared.event.Ask.{Ask}
use Rattle.policy_model.specs.declared.event.Decision.TheVariants.{Lost}
use Rattle.policy_model.specs.declared.event.Event.{Event}
use Rattle.policy_model.specs.Asks.{is_lost, is_proper}
use Rattle.policy_model.specs.Journal.{has_lost, kept_events}
use Rattle.policy_model.specs.Legal.{IsNext, event_with, next_event}
use Rattle.policy_model.specs.Runs.{IsRun}
use Rattle.policy_model.specs.Settings.{IsInRange, Settings, events_max, quota_of}
use Rattle.policy_model.proofs.Runs.{IsRun-none, IsRun-push, has_lost-push}
use Rattle.decision_log.specs.Typed.{IsTyped}
use Rattle.session_core.specs.Parts.{CoreParts, setup_of}
use Rattle.session_core.specs.Standing.{HasRoom, Stands}
use Rattle.session_core.proofs.ReplayLemmas.{begun_few}
use Rattle.session_laws.proofs.NextEvents.{next_event_follows, next_event_kept}
use Rattle.turn_cell.specs.Facts.{replies_of}
use Rattle.turn_cell.proofs.Counts.{at_most, room_for, within_more}
use Rattle.monitor_book.specs.Entering.{Settles, lost_of}
use Rattle.monitor_book.specs.Kept.{BookParts, IsBook, IsHistory, IsWithinQuota, worker_of}
use Rattle.monitor_book.proofs.EventLemmas.{lost_kept, lost_next}
use Rattle.monitor_book.specs.Lines.{decided_in}
use Rattle.monitor_book.proofs.LogLemmas.{kept_all, kept_lost}
use Rattle.monitor_book.proofs.TypedLemmas.{typed_push}

-- how long a list is at most that is filtered
pub filter_few : {X : Type 0} (p : X → Bool) (xs : List X) → length (filter p xs) ≤ length xs
filter_few p [] = omega arith
filter_few p (x ∷ xs) = go (p x) (filter_few p xs) where
  go : (b : Bool) → length (filter p xs) ≤ length xs → length (cond b (x ∷ filter p xs) (filter p xs)) ≤ suc (length xs)
  go true h = omega (arith, h)
  go false h = omega (arith, h)

-- an empty book
pub history_none : (core : CoreParts) → IsInRange (setup_of core) → Stands core [] → events_max (setup_of core) ≤ core.ledger.cap → IsHistory core [] false
history_none core range stands sessions = record {
  in_range = range;
  run = IsRun-none (setup_of core);
  stands = stands;
  known = refl;
  within = ((λ n le. refl), (λ n. omega arith));
  typed = tt;
  sessions = sessions;
}

-- a worker that has made fewer events than its quota leaves room for one
pub room_left : (core : CoreParts) (journal : List Event) (lost : Bool) (e : Event) → IsHistory core journal lost → e.worker < (setup_of core).workers → length (replies_of worker_of e.worker journal) < quota_of (setup_of core) → length journal < events_max (setup_of core)
room_left core journal lost e history worker left = room_for worker_of (setup_of core).workers (quota_of (setup_of core)) journal e history.within worker left

-- so the core has room for it
pub core_room : (core : CoreParts) (journal : List Event) (lost opening : Bool) → IsHistory core journal lost → length journal < events_max (setup_of core) → HasRoom core opening
core_room core journal lost opening history left =
    let few : core.settled ≤ length journal = omega (arith, history.stands.settled, filter_few (λ e. not (is_lost e.decision)) journal) in
    let max : events_max (setup_of core) ≤ 1048576 = history.in_range.product in
    record {
      few = omega (arith, few, left, max);
      openings = λ is. omega (arith, begun_few core (kept_events journal) history.stands, few, left, history.sessions);
    }

-- what holds of the event that a settling gives
pub record IsEntered (core new : CoreParts) (journal : List Event) (lost : Bool) (worker : ℕ) (ask : Ask) (e : Event) : Type 0 where
  pub decided : is_lost e.decision ≡ lost
  pub its : e.worker ≡ worker
  pub asks : e.ask ≡ ask
  pub is : lost ≡ false → e ≡ next_event (setup_of core) journal worker ask
  pub next : IsNext (setup_of core) journal e
  pub stands : Stands new (kept_events (journal ++ e ∷ []))

-- the next event of a core
abbrev pub IsNextOf : CoreParts → ℕ → Ask → Event → Type 0
IsNextOf core worker ask next = (journal : List Event) → Stands core journal → next ≡ next_event (setup_of core) journal worker ask

entered_kept : (core new : CoreParts) (journal : List Event) (worker : ℕ) (ask : Ask) (next e : Event) → has_lost journal ≡ false → IsHistory core journal false → IsNextOf core worker ask next → Settles false next core new e → IsEntered core new journal false worker ask e
entered_kept core new journal worker ask next e none history follows settled =
    let all : kept_events journal ≡ journal = kept_all journal none in
    let old : Stands core journal = subst (λ xs. Stands core xs) all history.stands in
    let is : e ≡ next_event (setup_of core) journal worker ask = settled.next refl ∙ follows journal old in
    let decided : is_lost e.decision ≡ false = ap (λ (x : Event). is_lost x.decision) is ∙ next_event_kept (setup_of core) journal worker ask in
    let grown : kept_events (journal ++ e ∷ []) ≡ journal ++ e ∷ [] = kept_all (journal ++ e ∷ []) (has_lost-push journal e ∙ rw (none, decided) refl) in
    record {
      decided = decided;
      its = ap (λ (x : Event). x.worker) is;
      asks = ap (λ (x : Event). x.ask) is;
      is = λ h. is;
      next = subst (λ (x : Event). IsNext (setup_of core) journal x) (sym is) (next_event_follows (setup_of core) journal worker ask none);
      stands = subst (λ xs. Stands new xs) (sym grown) (settled.stands refl journal old);
    }

lost_follows : (setup : Settings) (journal : List Event) (worker : ℕ) (ask : Ask) → IsNext setup journal (event_with journal worker ask Lost)
lost_follows setup journal worker ask = record { decided = refl; lost = λ h. refl }

entered_lost : (core new : CoreParts) (journal : List Event) (before : Bool) (worker : ℕ) (ask : Ask) (next e : Event) → IsHistory core journal before → IsNextOf core worker ask next → Settles true next core new e → IsEntered core new journal true worker ask e
entered_lost core new journal before worker ask next e history follows settled =
    let is : e ≡ event_with journal worker ask Lost =
    settled.nowhere refl ∙ ap lost_of (follows (kept_events journal) history.stands) ∙ lost_next (setup_of core) (kept_events journal) worker ask ∙ lost_kept worker ask journal in
    let decided : is_lost e.decision ≡ true = ap (λ (x : Event). is_lost x.decision) is in
    record {
      decided = decided;
      its = ap (λ (x : Event). x.worker) is;
      asks = ap (λ (x : Event). x.ask) is;
      is = λ h. absurd (false≢true (sym h));
      next = subst (λ (x : Event). IsNext (setup_of core) journal x) (sym is) (lost_follows (setup_of core) journal worker ask);
      stands = subst (λ xs. Stands new xs) (sym (kept_lost journal e decided)) (subst (λ (c : CoreParts). Stands c (kept_events journal)) (sym (settled.same refl)) history.stands);
    }

pub entered : (core new : CoreParts) (journal : List Event) (before lost : Bool) (worker : ℕ) (ask : Ask) (next e : Event) → IsHistory core journal before → (before ≡ true → lost ≡ true) → IsNextOf core worker ask next → Settles lost next core new e → IsEntered core new journal lost worker ask e
entered core new journal before true worker ask next e history stays follows settled = entered_lost core new journal before worker ask next e history follows settled
entered core new journal true false worker ask next e history stays follows settled = absurd (false≢true (stays refl))
entered core new journal false false worker ask next e history stays follows settled = entered_kept core new journal worker ask next e history.known history follows settled

-- the book after the event
pub history_push : (core new : CoreParts) (journal : List Event) (before lost : Bool) (worker : ℕ) (ask : Ask) (e : Event) → IsHistory core journal before → (before ≡ true → lost ≡ true) → IsEntered core new journal lost worker ask e → setup_of new ≡ setup_of core → new.ledger.cap ≡ core.ledger.cap → is_proper ask ≡ true → worker < (setup_of core).workers → length (replies_of worker_of worker journal) < quota_of (setup_of core) → (before ≡ false → IsTyped (next_event (setup_of core) journal worker ask)) → IsHistory new (journal ++ e ∷ []) lost
history_push core new journal before lost worker ask e history stays entered setup cap proper low left typed =
    let below : e.worker < (setup_of core).workers = subst (λ n. n < (setup_of core).workers) (sym entered.its) low in
    let few : length (replies_of worker_of (worker_of e) journal) < quota_of (setup_of core) = subst (λ n. length (replies_of worker_of n journal) < quota_of (setup_of core)) (sym entered.its) left in
    let follows : next_event (setup_of core) journal worker ask ≡ next_event (setup_of core) journal e.worker e.ask =
    ap (λ n. next_event (setup_of core) journal n ask) (sym entered.its) ∙ ap (next_event (setup_of core) journal e.worker) (sym entered.asks) in
    record {
      in_range = subst IsInRange (sym setup) history.in_range;
      run = subst (λ (s : Settings). IsRun s (journal ++ e ∷ [])) (sym setup) (IsRun-push (setup_of core) journal e history.run entered.next (ap is_proper entered.asks ∙ proper) below);
      stands = entered.stands;
      known = has_lost-push journal e ∙ rw (history.known, entered.decided) (join before lost stays);
      within = subst (λ (s : Settings). IsWithinQuota s (journal ++ e ∷ [])) (sym setup) (within_more worker_of (setup_of core).workers (quota_of (setup_of core)) journal e history.within below few);
      typed = subst (λ (s : Settings). AllByRecursion IsTyped (decided_in s (journal ++ e ∷ []))) (sym setup)
          (typed_push (setup_of core) journal e history.typed (λ h. entered.decided ∙ stays (sym history.known ∙ h)) (λ h. entered.is (sym entered.decided ∙ h) ∙ follows) (λ h. subst IsTyped follows (typed (sym history.known ∙ h))));
      sessions = omega (arith, history.sessions, cap, ap events_max setup);
    } where
      join : (b l : Bool) → (b ≡ true → l ≡ true) → (b || l) ≡ l
      join true l h = sym (h refl)
      join false l h = refl

-- how many events a book has at most
pub book_few : (book : BookParts) → IsBook book → length book.journal ≤ 1048576
book_few book kept =
    let few : length book.journal ≤ events_max (setup_of book.core) = at_most worker_of (setup_of book.core).workers (quota_of (setup_of book.core)) book.journal kept.history.within in
    omega (arith, few, kept.history.in_range.product)
