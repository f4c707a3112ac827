-- A run goes on by one event.
use Rattle.std.proofs.Common.{◌≡◌, ◌≢◌, ℕ, ◌+◌, ◌≤◌, ◌<◌, Bool, true, false, ◌&&◌, ◌||◌, cond, eqb, List, [], ◌∷◌, ◌++◌, refl, sym, ap, subst, ◌∙◌, arith, eq-eqb, inl, inr}
use Rattle.std.proofs.lemmas.Bool.{false≢true}
use Rattle.std.proofs.lemmas.List.Folds.{list_any-append}
use Rattle.std.specs.List.{AllByRecursion}
use Rattle.std.proofs.lemmas.Bool.Decides.{nat_tests}
use Rattle.policy_model.specs.declared.event.Ask.{Ask}
use Rattle.policy_model.specs.declared.event.Ask.TheVariants as asks
use Rattle.policy_model.specs.declared.event.Why.{Why}
use Rattle.policy_model.specs.declared.event.Decision.TheVariants.{Permit, Lost}
use Rattle.policy_model.specs.declared.event.Event.{Event}
use Rattle.policy_model.specs.Asks.{ends_session, is_begin, is_end, is_lost, is_permit, is_proper, came_by_frame, is_violation, opens}
use Rattle.policy_model.specs.Journal.{ask_count, has_lost, open_session_of, openings_of}
use Rattle.policy_model.specs.Legal.{IsNext, session_of}
use Rattle.policy_model.specs.Runs.{IsIdle, OthersStay, IsOfWorker, IsProperEvent, IsRun, IsServing}
use Rattle.policy_model.specs.Settings.{Settings}
use Rattle.policy_model.specs.Verdict.{request_verdict, verdict_of}
use Rattle.policy_model.proofs.Journals.{open_session_of-push}
use Rattle.policy_model.proofs.Legal.{IsLegal-none, IsLegal-push}
use Rattle.policy_model.proofs.Sessions.{AreNumbered-push, AreNumbered-weaker, ask_count-new, ask_count-push, openings_of-push, session_of-le}
use Rattle.policy_model.proofs.Verdicts.{ask_count-below, session_of-begin, session_of-other, verdict_of-begin, verdict_of-end, verdict_of-request}

All-push : {X : Type 0} (P : X → Type 0) (xs : List X) (x : X) → AllByRecursion P xs → P x → AllByRecursion P (xs ++ x ∷ [])
All-push P [] x h new = (new, tt)
All-push P (y ∷ ys) x h new = (h.0, All-push P ys x h.1 new)

-- a run begins
pub IsRun-none : (setup : Settings) → IsRun setup []
IsRun-none setup = record { legal = IsLegal-none setup; proper = tt; workers = tt; numbered = tt }

-- the session of an event that follows a journal
pub next_session : (setup : Settings) (journal : List Event) (e : Event) → IsNext setup journal e → e.session ≡ session_of journal e.worker e.ask e.decision
next_session setup journal e next =
    ap (λ x. x.session) next.decided ∙ ap (session_of journal e.worker e.ask) (sym (ap (λ x. x.decision) next.decided))

-- a decision that isn't lost is the policy's
pub next_decision : (setup : Settings) (journal : List Event) (e : Event) → IsNext setup journal e → is_lost e.decision ≡ false → e.decision ≡ verdict_of setup journal e.worker e.ask
next_decision setup journal e next kept =
    ap (λ x. x.decision) next.decided ∙ ap (λ b. cond b Lost (verdict_of setup journal e.worker e.ask)) kept

-- a run goes on by an event that may follow
pub IsRun-push : (setup : Settings) (journal : List Event) (e : Event) → IsRun setup journal → IsNext setup journal e → is_proper e.ask ≡ true → e.worker < setup.workers → IsRun setup (journal ++ e ∷ [])
IsRun-push setup journal e run next proper worker =
    let more : openings_of (journal ++ e ∷ []) ≡ openings_of journal + cond (opens e) 1 0 = openings_of-push journal e in
    let given : e.session ≤ openings_of journal + cond (opens e) 1 0 = subst (λ n. n ≤ openings_of journal + cond (opens e) 1 0) (sym (next_session setup journal e next)) (session_of-le journal e.worker e.ask e.decision run.numbered) in
    record {
      legal = IsLegal-push setup journal e run.legal next;
      proper = All-push IsProperEvent journal e run.proper (record { proper = proper });
      workers = All-push (IsOfWorker setup) journal e run.workers (record { below = worker });
      numbered = AreNumbered-push journal e (openings_of (journal ++ e ∷ [])) (AreNumbered-weaker journal (openings_of journal) (openings_of (journal ++ e ∷ [])) (omega (arith, more)) run.numbered) (omega (arith, more, given));
    }

eqb_same : (n : ℕ) → eqb n n ≡ true
eqb_same n = eq-eqb n n refl

or_false : (a b : Bool) → (a || b) ≡ false → (a ≡ false) × (b ≡ false)
or_false true b h = absurd cc
or_false false b h = (refl, h)

pub no_begin : (ask : Ask) → came_by_frame ask ≡ true → is_begin ask ≡ false
no_begin asks.Begin h = absurd cc
no_begin _ h = refl

no_end : (ask : Ask) → came_by_frame ask ≡ true → is_end ask ≡ false
no_end (asks.End why) h = absurd cc
no_end _ h = refl

-- a request leaves the worker's session open
pub stays_open : (journal : List Event) (e : Event) (worker : ℕ) → came_by_frame e.ask ≡ true → open_session_of (journal ++ e ∷ []) worker ≡ open_session_of journal worker
stays_open journal e worker request =
    open_session_of-push journal worker e ∙ go (eqb e.worker worker) (is_begin e.ask) (is_end e.ask) (no_begin e.ask request) (no_end e.ask request) where
      go : (same begin end : Bool) → begin ≡ false → end ≡ false → cond (same && (begin || end) && is_permit e.decision) (cond begin e.session 0) (open_session_of journal worker) ≡ open_session_of journal worker
      go false begin end p q = refl
      go true begin end p q = rw (p, q) refl

-- an end that isn't lost closes the worker's session
pub closes : (setup : Settings) (journal : List Event) (e : Event) (why : Why) → IsNext setup journal e → e.ask ≡ asks.End why → is_lost e.decision ≡ false → open_session_of journal e.worker ≢ 0 → open_session_of (journal ++ e ∷ []) e.worker ≡ 0
closes setup journal e why next ask kept some =
    let permit : e.decision ≡ Permit 0 = next_decision setup journal e next kept ∙ ap (verdict_of setup journal e.worker) ask ∙ verdict_of-end setup journal e.worker why some in
    open_session_of-push journal e.worker e ∙ rw (eqb_same e.worker, ask, permit) refl

-- an opening that isn't lost opens a session for a worker that has none
opened_now : (setup : Settings) (journal : List Event) (e : Event) → IsNext setup journal e → e.ask ≡ asks.Begin → is_lost e.decision ≡ false → open_session_of journal e.worker ≡ 0 → e.decision ≡ Permit (openings_of journal + 1)
opened_now setup journal e next ask kept none = next_decision setup journal e next kept ∙ ap (verdict_of setup journal e.worker) ask ∙ verdict_of-begin setup journal e.worker none

-- a session that was just opened has made no ask
pub record Opens (setup : Settings) (journal : List Event) (e : Event) : Type 0 where
  pub serving : IsServing setup (journal ++ e ∷ []) e.worker e.session
  pub asks : ask_count (journal ++ e ∷ []) e.session ≡ 0

-- the opening of a worker that has no open session, where it isn't lost
pub begins : (setup : Settings) (journal : List Event) (e : Event) → IsRun setup journal → IsNext setup journal e → e.ask ≡ asks.Begin → e.worker < setup.workers → is_lost e.decision ≡ false → open_session_of journal e.worker ≡ 0 → Opens setup journal e
begins setup journal e run next ask worker kept none =
    let permit : e.decision ≡ Permit (openings_of journal + 1) = opened_now setup journal e next ask kept none in
    let number : e.session ≡ openings_of journal + 1 = next_session setup journal e next ∙ ap (λ a. session_of journal e.worker a e.decision) ask ∙ ap (session_of journal e.worker asks.Begin) permit ∙ session_of-begin journal e.worker (openings_of journal + 1) in
    let proper : is_proper e.ask ≡ true = ap is_proper ask in
    let before : ask_count journal e.session ≡ 0 = ask_count-new journal (openings_of journal) e.session run.numbered (omega (arith, number)) in
    let opening : came_by_frame e.ask ≡ false = ap came_by_frame ask in
    let none_made : ask_count (journal ++ e ∷ []) e.session ≡ 0 = ask_count-push journal e e.session ∙ rw (opening, eqb_same e.session, before) refl in
    record {
      serving = record {
        run = IsRun-push setup journal e run next proper worker;
        opened = open_session_of-push journal e.worker e ∙ rw (eqb_same e.worker, ask, permit) refl;
        some = λ h. absurd (omega (arith, number, h));
        below = omega (arith, none_made);
      };
      asks = none_made;
    }

-- a session that went on after a request has made one ask more
pub record WentOn (setup : Settings) (journal : List Event) (e : Event) (session : ℕ) : Type 0 where
  pub serving : IsServing setup (journal ++ e ∷ []) e.worker session
  pub asks : ask_count (journal ++ e ∷ []) session ≡ ask_count journal session + 1

-- a request after which the session goes on
pub goes_on : (setup : Settings) (journal : List Event) (e : Event) (session : ℕ) → IsServing setup journal e.worker session → IsNext setup journal e → came_by_frame e.ask ≡ true → is_proper e.ask ≡ true → e.worker < setup.workers → ends_session e ≡ false → WentOn setup journal e session
goes_on setup journal e session serving next request proper worker on =
    let kept : is_lost e.decision ≡ false = (or_false _ (is_lost e.decision) on).1 in
    let rest = (or_false _ (is_lost e.decision) on).0 in
    let allowed : is_violation e.decision ≡ false = (or_false _ (is_violation e.decision) rest).1 in
    let judged : e.decision ≡ request_verdict setup journal session e.ask = next_decision setup journal e next kept ∙ verdict_of-request setup journal e.worker e.ask request ∙ ap (λ s. request_verdict setup journal s e.ask) serving.opened in
    let limit : ask_count journal session ≢ setup.requests = ask_count-below setup journal session e.ask (ap is_violation (sym judged) ∙ allowed) in
    let own : e.session ≡ session = next_session setup journal e next ∙ session_of-other journal e.worker e.ask e.decision (no_begin e.ask request) ∙ serving.opened in
    let same : eqb e.session session ≡ true = ap (λ s. eqb s session) own ∙ eqb_same session in
    let made : ask_count (journal ++ e ∷ []) session ≡ ask_count journal session + 1 = ask_count-push journal e session ∙ rw (same, request) refl in
    record {
      serving = record {
        run = IsRun-push setup journal e serving.run next proper worker;
        opened = stays_open journal e e.worker request ∙ serving.opened;
        some = serving.some;
        below = omega (arith, made, limit, serving.below);
      };
      asks = made;
    }

-- the open sessions of the other workers stay, by one event and by two steps
pub OthersStay-push : (journal : List Event) (e : Event) → OthersStay e.worker journal (journal ++ e ∷ [])
OthersStay-push journal e = record {
  others = λ other ne.
      let apart : eqb e.worker other ≡ false = grind (arith, nat_tests, ne) in
      open_session_of-push journal other e ∙ rw apart refl;
}

pub OthersStay-none : (worker : ℕ) (journal : List Event) → OthersStay worker journal journal
OthersStay-none worker journal = record { others = λ other ne. refl }

pub OthersStay-then : (worker : ℕ) (a b c : List Event) → OthersStay worker a b → OthersStay worker b c → OthersStay worker a c
OthersStay-then worker a b c p q = record { others = λ other ne. q.others other ne ∙ p.others other ne }

-- some decision was lost, with one more event
pub has_lost-push : (journal : List Event) (e : Event) → has_lost (journal ++ e ∷ []) ≡ (has_lost journal || is_lost e.decision)
has_lost-push journal e = list_any-append (λ x. is_lost x.decision) journal (e ∷ []) ∙ go (has_lost journal) (is_lost e.decision) where
  go : (a b : Bool) → (a || (b || false)) ≡ (a || b)
  go true b = refl
  go false true = refl
  go false false = refl

pub has_lost-now : (journal : List Event) (e : Event) → is_lost e.decision ≡ true → has_lost (journal ++ e ∷ []) ≡ true
has_lost-now journal e lost = has_lost-push journal e ∙ go (has_lost journal) (is_lost e.decision) lost where
  go : (a b : Bool) → b ≡ true → (a || b) ≡ true
  go true b h = refl
  go false b h = h

-- a worker is idle after the end of its open session
pub idle_after : (setup : Settings) (journal : List Event) (e : Event) (why : Why) → IsNext setup journal e → e.ask ≡ asks.End why → open_session_of journal e.worker ≢ 0 → IsIdle (journal ++ e ∷ []) e.worker
idle_after setup journal e why next ask some = go (is_lost e.decision) refl where
  go : (b : Bool) → is_lost e.decision ≡ b → IsIdle (journal ++ e ∷ []) e.worker
  go true h = inr (has_lost-now journal e h)
  go false h = inl (closes setup journal e why next ask h some)

-- the opening of an idle worker is lost, or opens a session
pub idle_open : (setup : Settings) (journal : List Event) (e : Event) → IsNext setup journal e → IsIdle journal e.worker → is_lost e.decision ≡ false → open_session_of journal e.worker ≡ 0
idle_open setup journal e next (inl none) kept = none
idle_open setup journal e next (inr lost) kept = absurd (false≢true (sym kept ∙ next.lost lost))
