-- The numbers of sessions, and the open sessions of the workers.
use Rattle.std.proofs.Common.{◌≡◌, ◌≢◌, ℕ, ◌+◌, ◌≤◌, Bool, true, false, not, ◌&&◌, ◌||◌, ◌==◌, cond, eqb, List, [], ◌∷◌, ◌++◌, refl, sym, ap, subst, ◌∙◌, arith, eq-eqb, inl, inr, ◌⊎◌, length}
use Rattle.std.proofs.lemmas.List.Sums.{count_by-le-length}
use Rattle.std.proofs.Math.Bool.{or-false}
use Rattle.std.specs.List.{list_any}
use Rattle.std.proofs.lemmas.Bool.{cases_eq}
use Rattle.std.proofs.lemmas.List.{append-nil}
use Rattle.std.proofs.lemmas.List.Folds.{list_any-append}
use Rattle.policy_model.specs.declared.event.Ask.{Ask}
use Rattle.policy_model.specs.declared.event.Ask.TheVariants as asks
use Rattle.policy_model.specs.declared.event.Decision.{Decision}
use Rattle.policy_model.specs.declared.event.Decision.TheVariants.{Permit, Deny, Lost}
use Rattle.policy_model.specs.declared.event.Event.{Event}
use Rattle.policy_model.specs.declared.phase.Phase.TheVariants.{Over}
use Rattle.policy_model.specs.Asks.{ends_session, is_begin, is_end, is_lost, is_permit, opens}
use Rattle.policy_model.specs.Journal.{events_of, open_session_of, openings_of}
use Rattle.policy_model.specs.Legal.{IsLegal, IsNext, session_of}
use Rattle.policy_model.specs.Phases.{phase_of}
use Rattle.policy_model.specs.Runs.{AreNumbered, OthersStay}
use Rattle.policy_model.specs.Settings.{Settings}
use Rattle.policy_model.proofs.Journals.{open_session_of-push}
use Rattle.policy_model.proofs.Lists.{filter-push}
use Rattle.policy_model.proofs.Runs.{OthersStay-push, next_session}
use Rattle.policy_model.proofs.Sessions.{AreNumbered-push, AreNumbered-weaker, open_session_of-le, openings_of-push, session_of-le}
use Rattle.session_laws.specs.Opened.{AreApart}
use Rattle.session_laws.proofs.ByEvents.{by_events}
use Rattle.session_laws.proofs.PhaseLemmas.{phase_of-over}
use Rattle.session_laws.proofs.SessionEvents.{events_of-other}

-- 1. The session of an event

-- of an event that isn't lost and opens none: the worker's open one
pub session_own : (journal : List Event) (e : Event) → e.session ≡ session_of journal e.worker e.ask e.decision → is_lost e.decision ≡ false → opens e ≡ false → e.session ≡ open_session_of journal e.worker
unfolding session_of
session_own journal e is kept closed = is ∙ go e.ask e.decision kept closed where
  begun : (d : Decision) → is_lost d ≡ false → is_permit d ≡ false → session_of journal e.worker asks.Begin d ≡ open_session_of journal e.worker
  begun (Permit value) kept closed = absurd cc
  begun (Deny rule detail) kept closed = refl
  begun Lost kept closed = absurd cc

  go : (ask : Ask) (d : Decision) → is_lost d ≡ false → (is_begin ask && is_permit d) ≡ false → session_of journal e.worker ask d ≡ open_session_of journal e.worker
  go asks.Begin d kept closed = begun d kept closed
  go _ d kept closed = refl

-- of one that opens it: the next number
pub session_new : (journal : List Event) (e : Event) → e.session ≡ session_of journal e.worker e.ask e.decision → opens e ≡ true → e.session ≡ openings_of journal + 1
unfolding session_of
session_new journal e is opened = is ∙ go e.ask e.decision opened where
  begun : (d : Decision) → is_permit d ≡ true → session_of journal e.worker asks.Begin d ≡ openings_of journal + 1
  begun (Permit value) h = refl
  begun _ h = absurd cc

  go : (ask : Ask) (d : Decision) → (is_begin ask && is_permit d) ≡ true → session_of journal e.worker ask d ≡ openings_of journal + 1
  go asks.Begin d h = begun d h
  go _ d h = absurd cc

-- 2. Numbers that were given

pub numbered-push : (journal : List Event) (e : Event) → e.session ≡ session_of journal e.worker e.ask e.decision → AreNumbered journal (openings_of journal) → AreNumbered (journal ++ e ∷ []) (openings_of (journal ++ e ∷ []))
numbered-push journal e is numbered =
    let more : openings_of (journal ++ e ∷ []) ≡ openings_of journal + cond (opens e) 1 0 = openings_of-push journal e in
    let given : e.session ≤ openings_of journal + cond (opens e) 1 0 = subst (λ n. n ≤ openings_of journal + cond (opens e) 1 0) (sym is) (session_of-le journal e.worker e.ask e.decision numbered) in
    AreNumbered-push journal e (openings_of (journal ++ e ∷ [])) (AreNumbered-weaker journal (openings_of journal) (openings_of (journal ++ e ∷ [])) (omega (arith, more)) numbered) (omega (arith, more, given))

-- no event of a legal journal has a greater session than the last that was opened
pub legal_numbered : (setup : Settings) (journal : List Event) → IsLegal setup journal → AreNumbered journal (openings_of journal)
legal_numbered setup journal legal = by_events setup (λ j. AreNumbered j (openings_of j)) tt (λ j e next h. numbered-push j e (next_session setup j e next) h) journal legal

-- the openings with one more event
pub openings-opened : (journal : List Event) (e : Event) → opens e ≡ true → openings_of (journal ++ e ∷ []) ≡ openings_of journal + 1
openings-opened journal e opened = openings_of-push journal e ∙ ap (λ b. openings_of journal + cond b 1 0) opened

pub openings-kept : (journal : List Event) (e : Event) → opens e ≡ false → openings_of (journal ++ e ∷ []) ≡ openings_of journal
openings-kept journal e closed = openings_of-push journal e ∙ ap (λ b. openings_of journal + cond b 1 0) closed ∙ omega arith

-- no more sessions are opened than there are events
pub openings_few : (journal : List Event) → openings_of journal ≤ length journal
openings_few journal = count_by-le-length opens journal

-- 3. The worker's open session

pub open_session-other : (journal : List Event) (e : Event) (worker : ℕ) → worker ≢ e.worker → open_session_of (journal ++ e ∷ []) worker ≡ open_session_of journal worker
open_session-other journal e worker ne = let s : OthersStay e.worker journal (journal ++ e ∷ []) = OthersStay-push journal e in s.others worker ne

turned : (journal : List Event) (e : Event) (begin end permit : Bool) → is_begin e.ask ≡ begin → is_end e.ask ≡ end → is_permit e.decision ≡ permit → open_session_of (journal ++ e ∷ []) e.worker ≡ cond ((begin || end) && permit) (cond begin e.session 0) (open_session_of journal e.worker)
turned journal e begin end permit b n p = open_session_of-push journal e.worker e ∙ rw (eq-eqb e.worker e.worker refl, b, n, p) refl

-- after an opening, after an end, and after anything else
pub open_session-opened : (journal : List Event) (e : Event) → opens e ≡ true → open_session_of (journal ++ e ∷ []) e.worker ≡ e.session
open_session-opened journal e opened = turned journal e (is_begin e.ask) (is_end e.ask) (is_permit e.decision) refl refl refl ∙ go (is_begin e.ask) (is_end e.ask) (is_permit e.decision) opened where
  go : (begin end permit : Bool) → (begin && permit) ≡ true → cond ((begin || end) && permit) (cond begin e.session 0) (open_session_of journal e.worker) ≡ e.session
  go true end true h = refl
  go true end false h = absurd cc
  go false end permit h = absurd cc

pub open_session-ended : (journal : List Event) (e : Event) → is_end e.ask ≡ true → is_permit e.decision ≡ true → open_session_of (journal ++ e ∷ []) e.worker ≡ 0
open_session-ended journal e end permit = turned journal e false true true (no_opening e.ask end) end permit where
  no_opening : (ask : Ask) → is_end ask ≡ true → is_begin ask ≡ false
  no_opening (asks.End why) h = refl
  no_opening _ h = absurd cc

pub open_session-kept : (journal : List Event) (e : Event) → opens e ≡ false → (is_end e.ask && is_permit e.decision) ≡ false → open_session_of (journal ++ e ∷ []) e.worker ≡ open_session_of journal e.worker
open_session-kept journal e closed on = turned journal e (is_begin e.ask) (is_end e.ask) (is_permit e.decision) refl refl refl ∙ go (is_begin e.ask) (is_end e.ask) (is_permit e.decision) closed on where
  go : (begin end permit : Bool) → (begin && permit) ≡ false → (end && permit) ≡ false → cond ((begin || end) && permit) (cond begin e.session 0) (open_session_of journal e.worker) ≡ open_session_of journal e.worker
  go true end true h k = absurd cc
  go true true false h k = refl
  go true false false h k = refl
  go false true true h k = absurd cc
  go false true false h k = refl
  go false false permit h k = refl

-- it stays, is none, or is a new one
moved : (journal : List Event) (e : Event) → e.session ≡ session_of journal e.worker e.ask e.decision → (open_session_of (journal ++ e ∷ []) e.worker ≡ open_session_of journal e.worker) ⊎ ((open_session_of (journal ++ e ∷ []) e.worker ≡ 0) ⊎ (open_session_of (journal ++ e ∷ []) e.worker ≡ openings_of journal + 1))
moved journal e is = go (opens e) (is_end e.ask && is_permit e.decision) refl refl where
  ended : (a b : Bool) → (a && b) ≡ true → (a ≡ true) × (b ≡ true)
  ended true true h = (refl, refl)
  ended true false h = absurd cc
  ended false b h = absurd cc

  go : (a b : Bool) → opens e ≡ a → (is_end e.ask && is_permit e.decision) ≡ b → (open_session_of (journal ++ e ∷ []) e.worker ≡ open_session_of journal e.worker) ⊎ ((open_session_of (journal ++ e ∷ []) e.worker ≡ 0) ⊎ (open_session_of (journal ++ e ∷ []) e.worker ≡ openings_of journal + 1))
  go true b h k = inr (inr (open_session-opened journal e h ∙ session_new journal e is h))
  go false true h k = let both = ended (is_end e.ask) (is_permit e.decision) k in inr (inl (open_session-ended journal e both.0 both.1))
  go false false h k = inl (open_session-kept journal e h k)

-- 4. The open sessions of two workers differ

apart_by : (a b last x : ℕ) → a ≤ last → b ≤ last → (a ≢ 0 → a ≢ b) → (x ≡ a) ⊎ ((x ≡ 0) ⊎ (x ≡ last + 1)) → x ≢ 0 → x ≢ b
apart_by a b last x la lb h (inl is) some same = h (λ e. some (is ∙ e)) (sym is ∙ same)
apart_by a b last x la lb h (inr (inl is)) some same = some is
apart_by a b last x la lb h (inr (inr is)) some same = omega arith

pub AreApart-push : (journal : List Event) (e : Event) → AreNumbered journal (openings_of journal) → e.session ≡ session_of journal e.worker e.ask e.decision → AreApart journal → AreApart (journal ++ e ∷ [])
AreApart-push journal e numbered is before = record { apart = λ v w ne some. go v w ne some (cases_eq v e.worker) (cases_eq w e.worker) } where
  le : (w : ℕ) → open_session_of journal w ≤ openings_of journal
  le w = open_session_of-le journal w (openings_of journal) numbered

  moves : (v : ℕ) → v ≡ e.worker → (open_session_of (journal ++ e ∷ []) v ≡ open_session_of journal v) ⊎ ((open_session_of (journal ++ e ∷ []) v ≡ 0) ⊎ (open_session_of (journal ++ e ∷ []) v ≡ openings_of journal + 1))
  moves v here = subst (λ x. (open_session_of (journal ++ e ∷ []) x ≡ open_session_of journal x) ⊎ ((open_session_of (journal ++ e ∷ []) x ≡ 0) ⊎ (open_session_of (journal ++ e ∷ []) x ≡ openings_of journal + 1))) (sym here) (moved journal e is)

  go : (v w : ℕ) → v ≢ w → open_session_of (journal ++ e ∷ []) v ≢ 0 → (v ≡ e.worker) ⊎ (v ≢ e.worker) → (w ≡ e.worker) ⊎ (w ≢ e.worker) → open_session_of (journal ++ e ∷ []) v ≢ open_session_of (journal ++ e ∷ []) w
  go v w ne some (inl here) (inl there) same = ne (here ∙ sym there)
  go v w ne some (inl here) (inr away) same = apart_by (open_session_of journal v) (open_session_of journal w) (openings_of journal) (open_session_of (journal ++ e ∷ []) v) (le v) (le w) (before.apart v w ne) (moves v here) some (same ∙ open_session-other journal e w away)
  go v w ne some (inr away) (inl there) same =
      apart_by (open_session_of journal w) (open_session_of journal v) (openings_of journal) (open_session_of (journal ++ e ∷ []) w) (le w) (le v) (before.apart w v (λ h. ne (sym h))) (moves w there) (λ z. some (same ∙ z)) (sym same ∙ open_session-other journal e v away)
  go v w ne some (inr away) (inr off) same = before.apart v w ne (λ z. some (open_session-other journal e v away ∙ z)) (sym (open_session-other journal e v away) ∙ same ∙ open_session-other journal e w off)

record Counted (journal : List Event) : Type 0 where
  pub numbered : AreNumbered journal (openings_of journal)
  pub apart : AreApart journal

pub legal_apart : (setup : Settings) (journal : List Event) → IsLegal setup journal → AreApart journal
legal_apart setup journal legal = let c = by_events setup Counted none more journal legal in c.apart where
  none : Counted []
  none = record { numbered = tt; apart = record { apart = λ v w ne some same. some refl } }

  more : (j : List Event) (e : Event) → IsNext setup j e → Counted j → Counted (j ++ e ∷ [])
  more j e next c = let is = next_session setup j e next in record { numbered = numbered-push j e is c.numbered; apart = AreApart-push j e c.numbered is c.apart }

-- an event that isn't lost isn't of another worker's open session
pub not_of_other : (journal : List Event) (e : Event) (worker : ℕ) → AreNumbered journal (openings_of journal) → AreApart journal → e.session ≡ session_of journal e.worker e.ask e.decision → is_lost e.decision ≡ false → worker ≢ e.worker → open_session_of journal worker ≢ 0 → e.session ≢ open_session_of journal worker
not_of_other journal e worker numbered before is kept ne some = go (opens e) refl where
  go : (b : Bool) → opens e ≡ b → e.session ≢ open_session_of journal worker
  go true h same = let n = session_new journal e is h in let le = open_session_of-le journal worker (openings_of journal) numbered in omega arith
  go false h same = before.apart worker e.worker ne some (sym same ∙ session_own journal e is kept h)

-- 5. No session has the number 0

record ZeroIsClosed (journal : List Event) : Type 0 where
  pub closed : list_any opens (events_of journal 0) ≡ false

pub phase_of-zero : (setup : Settings) (journal : List Event) → IsLegal setup journal → phase_of journal 0 ≡ Over
phase_of-zero setup journal legal = let z = by_events setup ZeroIsClosed (record { closed = refl }) more journal legal in phase_of-over journal 0 (ap (λ b. not b || list_any ends_session (events_of journal 0)) z.closed) where
  more : (j : List Event) (e : Event) → IsNext setup j e → ZeroIsClosed j → ZeroIsClosed (j ++ e ∷ [])
  more j e next z = record { closed = go (opens e) refl } where
    go : (b : Bool) → opens e ≡ b → list_any opens (events_of (j ++ e ∷ []) 0) ≡ false
    go true is =
        let n = session_new j e (next_session setup j e next) is in
        ap (list_any opens) (events_of-other j e 0 (λ (same : e.session ≡ 0). absurd (omega arith))) ∙ z.closed
    go false is = ap (list_any opens) (filter-push (λ x. x.session == 0) j e) ∙ last (eqb e.session 0) ∙ z.closed where
      last : (c : Bool) → list_any opens (events_of j 0 ++ cond c (e ∷ []) []) ≡ list_any opens (events_of j 0)
      last true = list_any-append opens (events_of j 0) (e ∷ []) ∙ rw is (or-false (list_any opens (events_of j 0)))
      last false = ap (list_any opens) (append-nil (events_of j 0))
