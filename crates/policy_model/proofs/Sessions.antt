-- Numbers of sessions, and the asks that a session has made.
use Rattle.std.proofs.Common.{◌≡◌, ℕ, ◌+◌, ◌≤◌, ◌<◌, Bool, true, false, ◌&&◌, cond, eqb, List, [], ◌∷◌, ◌++◌, Option, Some, None, refl, ap, ◌∙◌, arith, filter, count_by, ◌==◌}
use Rattle.std.specs.List.{last_or}
use Rattle.std.proofs.lemmas.Bool.Decides.{nat_tests}
use Rattle.std.proofs.lemmas.List.Sums.{fold_push}
use Rattle.std.proofs.lemmas.List.{append-nil}
use Rattle.policy_model.specs.declared.event.Ask.{Ask}
use Rattle.policy_model.specs.declared.event.Ask.TheVariants as asks
use Rattle.policy_model.specs.declared.event.Decision.{Decision}
use Rattle.policy_model.specs.declared.event.Decision.TheVariants.{Permit, Deny, Lost}
use Rattle.policy_model.specs.declared.event.Event.{Event}
use Rattle.policy_model.specs.Asks.{is_begin, is_permit, came_by_frame, opens}
use Rattle.policy_model.specs.Journal.{ask_count, is_turn_of, open_session_of, openings_of}
use Rattle.policy_model.specs.Cases.{session_opened}
use Rattle.policy_model.specs.Legal.{session_of}
use Rattle.policy_model.specs.Runs.{AreNumbered}
use Rattle.policy_model.proofs.Lists.{filter-push}

-- the sessions opened with one more event
pub openings_of-push : (journal : List Event) (e : Event) → openings_of (journal ++ e ∷ []) ≡ openings_of journal + cond (opens e) 1 0
openings_of-push journal e = fold_push (λ n x. n + cond (opens x) 1 0) 0 journal e

pub AreNumbered-weaker : (journal : List Event) (a b : ℕ) → a ≤ b → AreNumbered journal a → AreNumbered journal b
AreNumbered-weaker [] a b le h = tt
AreNumbered-weaker (e ∷ es) a b le h = (omega (arith, h.0), AreNumbered-weaker es a b le h.1)

pub AreNumbered-push : (journal : List Event) (e : Event) (last : ℕ) → AreNumbered journal last → e.session ≤ last → AreNumbered (journal ++ e ∷ []) last
AreNumbered-push [] e last h new = (new, tt)
AreNumbered-push (x ∷ xs) e last h new = (h.0, AreNumbered-push xs e last h.1 new)

open_below : (p : Event → Bool) (o : Option Event) (journal : List Event) (last : ℕ) → session_opened o ≤ last → AreNumbered journal last → session_opened (last_or o (filter p journal)) ≤ last
open_below p o [] last h all = h
open_below p o (e ∷ es) last h all =
    let opened : session_opened (Some e) ≤ last = elim (is_begin e.ask) as (λ b. cond b e.session 0 ≤ last) [ true ↦ all.0 | false ↦ omega arith ] in
    elim (p e) as (λ b. session_opened (last_or o (cond b (e ∷ filter p es) (filter p es))) ≤ last) [
      | true ↦ open_below p (Some e) es last opened all.1
      | false ↦ open_below p o es last h all.1
    ]

-- an open session has a number that was given
pub open_session_of-le : (journal : List Event) (worker last : ℕ) → AreNumbered journal last → open_session_of journal worker ≤ last
open_session_of-le journal worker last all = open_below (is_turn_of worker) None journal last (omega arith) all

-- the asks that a session has made, with one more event
pub ask_count-push : (journal : List Event) (e : Event) (session : ℕ) → ask_count (journal ++ e ∷ []) session ≡ ask_count journal session + cond (eqb e.session session && came_by_frame e.ask) 1 0
ask_count-push journal e session = ap (count_by (λ x. came_by_frame x.ask)) (filter-push (λ x. x.session == session) journal e) ∙ go (eqb e.session session) where
  own : List Event
  own = filter (λ x. x.session == session) journal

  go : (b : Bool) → count_by (λ x. came_by_frame x.ask) (own ++ cond b (e ∷ []) []) ≡ count_by (λ x. came_by_frame x.ask) own + cond (b && came_by_frame e.ask) 1 0
  go true = fold_push (λ n x. n + cond (came_by_frame x.ask) 1 0) 0 own e
  go false = ap (count_by (λ x. came_by_frame x.ask)) (append-nil own) ∙ omega arith

-- a session with a number that wasn't given yet has made no ask
pub ask_count-new : (journal : List Event) (last session : ℕ) → AreNumbered journal last → last < session → ask_count journal session ≡ 0
ask_count-new [] last session all lt = refl
ask_count-new (e ∷ es) last session all lt =
    let other : eqb e.session session ≡ false = grind (arith, nat_tests, all.0) in
    ap (λ b. count_by (λ x. came_by_frame x.ask) (cond b (e ∷ filter (λ x. x.session == session) es) (filter (λ x. x.session == session) es))) other ∙ ask_count-new es last session all.1 lt

-- an event's session is a number that was given, also by the event itself
pub session_of-le : (journal : List Event) (worker : ℕ) (ask : Ask) (decision : Decision) → AreNumbered journal (openings_of journal) → session_of journal worker ask decision ≤ openings_of journal + cond (is_begin ask && is_permit decision) 1 0
unfolding session_of
session_of-le journal worker asks.Begin (Permit value) all = omega arith
session_of-le journal worker asks.Begin (Deny rule detail) all = omega (arith, open_session_of-le journal worker (openings_of journal) all)
session_of-le journal worker asks.Begin Lost all = omega arith
session_of-le journal worker _ decision all = omega (arith, open_session_of-le journal worker (openings_of journal) all)
