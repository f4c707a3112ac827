-- A book goes on by one call.
use Rattle.std.proofs.Common.{◌≡◌, ℕ, ◌+◌, ◌<◌, ◌≤◌, Bool, true, false, List, [], ◌∷◌, ◌++◌, length, take, refl, sym, ap, subst, ◌∙◌, arith}
use Rattle.std.specs.Prelude.{Result, Ok, Err, OnErr, OnOk, is_err}
use Rattle.std.proofs.lemmas.Bool.{false≢true}
use Rattle.std.proofs.Math.Seq.{take-append_seam}
use Rattle.outside.specs.declared.act.Failed.{Failed}
use Rattle.outside.specs.Faults.{count_after}
use Rattle.outside.specs.Told.{Gains, GainsPart}
use Rattle.policy_model.specs.declared.event.Ask.{Ask}
use Rattle.policy_model.specs.declared.event.Ask.TheVariants as asks
use Rattle.policy_model.specs.declared.event.Decision.TheVariants.{Lost}
use Rattle.policy_model.specs.declared.event.Event.{Event}
use Rattle.policy_model.specs.Asks.{is_lost, is_proper}
use Rattle.policy_model.specs.Journal.{has_lost, kept_events}
use Rattle.policy_model.specs.Legal.{next_event}
use Rattle.policy_model.specs.Settings.{Settings, events_max, quota_of}
use Rattle.decision_log.specs.Log.{line_of}
use Rattle.decision_log.specs.Typed.{IsTyped}
use Rattle.session_core.specs.Parts.{CoreParts, setup_of}
use Rattle.session_core.specs.Standing.{HasRoom, KeepsSetup, Stands}
use Rattle.turn_cell.specs.Facts.{replies_of}
use Rattle.monitor_book.specs.declared.opened.Held.{Held}
use Rattle.monitor_book.specs.Entering.{Settles}
use Rattle.monitor_book.specs.Kept.{BookParts, IsBook, IsLogged, book_parts, worker_of}
use Rattle.monitor_book.proofs.HistoryLemmas.{IsEntered, IsNextOf, core_room, entered, history_push, room_left}
use Rattle.monitor_book.proofs.LogLemmas.{WritesLine, kept_all, logged_push}

-- a worker may make a call
pub record IsAsked (core : CoreParts) (journal : List Event) (worker : ℕ) : Type 0 where
  pub who : worker < (setup_of core).workers
  pub quota : length (replies_of worker_of worker journal) < quota_of (setup_of core)

pub asked_of : (book seen : BookParts) (worker : ℕ) → book ≡ seen → worker < seen.core.ledger.setup.workers → length (replies_of worker_of worker seen.journal) < quota_of seen.core.ledger.setup → IsAsked book.core book.journal worker
asked_of book seen worker is who quota = subst (λ (b : BookParts). IsAsked b.core b.journal worker) (sym is) (record { who = who; quota = quota })

-- there is room for its event
pub event_room : (book : BookParts) (worker : ℕ) → IsBook book → IsAsked book.core book.journal worker → length book.journal < events_max (setup_of book.core)
event_room book worker kept asked =
    let any : Event = record { worker = worker; session = 0; ask = asks.Begin; decision = Lost } in
    room_left book.core book.journal book.lost any kept.history asked.who asked.quota

pub event_few : (book : BookParts) (worker : ℕ) → IsBook book → IsAsked book.core book.journal worker → length book.journal < 1048576
event_few book worker kept asked = omega (arith, event_room book worker kept asked, kept.history.in_range.product)

pub settle_room : (book : BookParts) (worker : ℕ) (opening : Bool) → IsBook book → IsAsked book.core book.journal worker → HasRoom book.core opening
settle_room book worker opening kept asked = core_room book.core book.journal book.lost opening kept.history (event_room book worker kept asked)

-- nothing is written after a lost event
pub writes_nothing : (before : Bool) (line : List ℕ) (held : Held) (faults : ℕ) → before ≡ true → WritesLine before before line held held faults faults
writes_nothing before line held faults lost = record {
  again = λ h. (lost, refl, refl);
  written = λ h. absurd (false≢true (sym h ∙ lost));
  appended = λ h. absurd (false≢true (sym h ∙ lost));
  cut = λ h. absurd (false≢true (sym h ∙ lost));
  tried = λ h. absurd (false≢true (sym h ∙ lost));
  counted = omega arith;
}

-- an append
pub writes_line : (outcome : Result (Unit {0}) Failed) (line : List ℕ) (held_old held_new : Held) (faults_old faults_new : ℕ) → OnOk outcome (Gains held_old.bytes line held_new.bytes) → OnErr outcome (GainsPart held_old.bytes line held_new.bytes) → OnOk outcome (Gains held_old.lengths (length line ∷ []) held_new.lengths) → OnErr outcome ((n : ℕ) × Gains held_old.lengths (n ∷ []) held_new.lengths) → faults_new ≡ count_after outcome faults_old → faults_old ≤ faults_new → WritesLine false (is_err outcome) line held_old held_new faults_old faults_new
writes_line (Ok x) line held_old held_new faults_old faults_new ok part length_ok length_err counts kept = record {
  again = λ h. absurd (false≢true h);
  written = λ h. (ok, counts);
  appended = λ h. length_ok;
  cut = λ h lost. absurd (false≢true lost);
  tried = λ h lost. absurd (false≢true lost);
  counted = kept;
}
writes_line (Err e) line held_old held_new faults_old faults_new ok part length_ok length_err counts kept = record {
  again = λ h. absurd (false≢true h);
  written = λ h. absurd (false≢true (sym h));
  appended = λ h. absurd (false≢true (sym h));
  cut = λ h lost. (part, record { rose = omega (arith, counts) });
  tried = λ h lost. length_err;
  counted = kept;
}

-- the event is the one that follows
pub event_is : (book : BookParts) (worker : ℕ) (ask : Ask) (event : Event) → IsBook book → book.lost ≡ false → IsNextOf book.core worker ask event → event ≡ next_event (setup_of book.core) book.journal worker ask
event_is book worker ask event kept none is =
    let all : kept_events book.journal ≡ book.journal = kept_all book.journal (kept.history.known ∙ none) in
    is book.journal (subst (λ xs. Stands book.core xs) all kept.history.stands)

-- and its numbers are in the ranges of their types
pub typed_is : (book : BookParts) (worker : ℕ) (ask : Ask) (event : Event) → IsBook book → is_proper ask ≡ true → IsNextOf book.core worker ask event → (is_proper event.ask ≡ true → IsTyped event) → book.lost ≡ false → IsTyped (next_event (setup_of book.core) book.journal worker ask)
typed_is book worker ask event kept proper is typed none =
    let follows = event_is book worker ask event kept none is in
    subst IsTyped follows (typed (ap (λ (x : Event). is_proper x.ask) follows ∙ proper))

-- what is written is its line
pub line_is : (book : BookParts) (worker : ℕ) (ask : Ask) (event : Event) (number len : ℕ) (out rest : List ℕ) → IsBook book → book.lost ≡ false → IsNextOf book.core worker ask event → number ≡ length book.journal + 1 → len ≡ length (line_of number event) → out ≡ line_of number event ++ rest → take len out ≡ line_of (length book.journal + 1) (next_event (setup_of book.core) book.journal worker ask)
line_is book worker ask event number len out rest kept none is counted long written =
    let front : take len out ≡ line_of number event = ap (λ n. take n out) long ∙ ap (λ xs. take (length (line_of number event)) xs) written ∙ take-append_seam (line_of number event) rest in
    front ∙ ap (λ n. line_of n event) counted ∙ ap (line_of (length book.journal + 1)) (event_is book worker ask event kept none is)

-- the worker and the ask are those of the event
pub asked_by : (book : BookParts) (worker : ℕ) (ask : Ask) (event : Event) → IsBook book → IsNextOf book.core worker ask event → (event.worker ≡ worker) × (event.ask ≡ ask)
asked_by book worker ask event kept is =
    let follows = is (kept_events book.journal) kept.history.stands in
    (ap (λ (x : Event). x.worker) follows, ap (λ (x : Event). x.ask) follows)

pub own_next : (book : BookParts) (worker : ℕ) (ask : Ask) (event : Event) → IsBook book → IsNextOf book.core worker ask event → IsNextOf book.core event.worker event.ask event
own_next book worker ask event kept is journal st =
    let by = asked_by book worker ask event kept is in
    is journal st ∙ ap (λ n. next_event (setup_of book.core) journal n ask) (sym by.0) ∙ ap (next_event (setup_of book.core) journal event.worker) (sym by.1)

-- the book after the event
pub book_push : (book : BookParts) (new : CoreParts) (lost : Bool) (worker : ℕ) (ask : Ask) (next e : Event) (held : Held) (faults : ℕ) → IsBook book → IsAsked book.core book.journal worker → is_proper ask ≡ true → (book.lost ≡ false → IsTyped (next_event (setup_of book.core) book.journal worker ask)) → WritesLine book.lost lost (line_of (length book.journal + 1) (next_event (setup_of book.core) book.journal worker ask)) book.held held book.faults faults → KeepsSetup book.core new → IsNextOf book.core worker ask next → Settles lost next book.core new e → IsBook (book_parts new (book.journal ++ e ∷ []) lost book.held_first held book.faults_first faults)
book_push book new lost worker ask next e held faults kept asked proper typed line same is settled =
    let stays : book.lost ≡ true → lost ≡ true = λ h. (line.again h).0 in
    let came : IsEntered book.core new book.journal lost worker ask e = entered book.core new book.journal book.lost lost worker ask next e kept.history stays is settled in
    let follows : next_event (setup_of book.core) book.journal worker ask ≡ next_event (setup_of book.core) book.journal e.worker e.ask = ap (λ n. next_event (setup_of book.core) book.journal n ask) (sym came.its) ∙ ap (next_event (setup_of book.core) book.journal e.worker) (sym came.asks) in
    let own : WritesLine (has_lost book.journal) (is_lost e.decision) (line_of (length book.journal + 1) (next_event (setup_of book.core) book.journal e.worker e.ask)) book.held held book.faults faults =
    subst (λ (x : Event). WritesLine (has_lost book.journal) (is_lost e.decision) (line_of (length book.journal + 1) x) book.held held book.faults faults) follows
    (subst (λ b. WritesLine (has_lost book.journal) b (line_of (length book.journal + 1) (next_event (setup_of book.core) book.journal worker ask)) book.held held book.faults faults) (sym came.decided)
    (subst (λ b. WritesLine b lost (line_of (length book.journal + 1) (next_event (setup_of book.core) book.journal worker ask)) book.held held book.faults faults) (sym kept.history.known) line)) in
    record {
      history = history_push book.core new book.journal book.lost lost worker ask e kept.history stays came same.setup_is same.cap_is proper asked.who asked.quota typed;
      logged = subst (λ (s : Settings). IsLogged s (book.journal ++ e ∷ []) book.held_first held book.faults_first faults) (sym same.setup_is)
          (logged_push (setup_of book.core) book.journal e book.held_first book.held held book.faults_first book.faults faults kept.logged own (λ h. came.is (sym came.decided ∙ h) ∙ follows));
    }
