-- The live handles of a session of a legal journal: at most 8, each of 1 to 8, no two the same.
use Rattle.std.proofs.Common.{◌≡◌, ◌≢◌, ℕ, ◌≤◌, ◌<◌, Bool, true, false, not, ◌&&◌, ◌||◌, ◌==◌, cond, eqb, nat_le, List, [], ◌∷◌, ◌++◌, filter, length, map, Option, Some, None, refl, sym, ap, subst, ◌∙◌, arith, inl, inr, ◌⊎◌}
use Rattle.std.specs.List.{find, list_all, list_any}
use Rattle.std.proofs.lemmas.Bool.{and_from, and_parts, cases_eq, false≢true, not-true, or_parts}
use Rattle.std.proofs.lemmas.Bool.Decides.{nat_tests}
use Rattle.std.proofs.lemmas.List.{append-nil, length-append, map-append}
use Rattle.std.proofs.lemmas.List.Folds.{list_all-append, list_any-append}
use Rattle.request_catalogue.specs.declared.kind.Kind.TheVariants as kinds
use Rattle.policy_model.specs.declared.account.Grant.{Grant}
use Rattle.policy_model.specs.declared.event.Ask.{Ask}
use Rattle.policy_model.specs.declared.event.Ask.TheVariants as asks
use Rattle.policy_model.specs.declared.event.Decision.TheVariants.{Permit, Deny}
use Rattle.policy_model.specs.declared.event.Event.{Event}
use Rattle.policy_model.specs.declared.phase.Phase.{Phase}
use Rattle.policy_model.specs.Asks.{came_by_frame, closes_file, exports, is_permit, kind_of, opens_file, value_of}
use Rattle.policy_model.specs.Cases.{is_open, account_named, grant_verdict, grants_of, handle_of}
use Rattle.policy_model.specs.Handles.{free_handle_of, live_handles_of}
use Rattle.policy_model.specs.Journal.{ask_count, has_event}
use Rattle.policy_model.specs.Legal.{IsLegal, IsNext}
use Rattle.policy_model.specs.Logins.{verified_user}
use Rattle.policy_model.specs.Phases.{is_over, phase_of, table_row}
use Rattle.policy_model.specs.Settings.{Settings, are_distinct, is_number, same_label}
use Rattle.policy_model.specs.Verdict.{allows, kind_verdict, open_verdict, request_verdict}
use Rattle.policy_model.specs.declared.phase.Phase.TheVariants.{Challenged, Over, Pre, User, Verified}
use Rattle.session_laws.specs.Handled.{GivesLeast, HandlesDiffer, HandlesGoOn, handles_after}
use Rattle.session_laws.proofs.ByEvents.{by_events}
use Rattle.session_laws.proofs.FreeHandles.{IsFreeNumber, free_number, has_handle}
use Rattle.session_laws.proofs.HandleSteps.{live_handles_of-other, live_handles_of-own}
use Rattle.session_laws.proofs.Permits.{permit_from, request_permit, row_permit}
use Rattle.session_laws.proofs.Permitted.{permitted_live}
use Rattle.session_laws.proofs.PhaseLemmas.{phase_tests}
use Rattle.session_laws.proofs.SessionEvents.{has_event-other, has_event-own}

pub handles_go_on : (journal : List Event) (e : Event) → HandlesGoOn journal e
handles_go_on journal e = record { own = live_handles_of-own journal e e.session refl; other = live_handles_of-other journal e }

-- 1. What a permitted OPEN gives

grant_permit : (free mode value : ℕ) (o : Option Grant) → grant_verdict free mode o ≡ Permit value → value ≡ free
grant_permit free mode value None h = absurd cc
grant_permit free mode value (Some grant) h = go (allows grant.mode mode) h where
  go : (b : Bool) → cond b (Permit free) (Deny 21 mode) ≡ Permit value → value ≡ free
  go true h = cc
  go false h = absurd cc

-- a permitted OPEN was judged with room for it
record OpenJudged (journal : List Event) (session value : ℕ) : Type 0 where
  pub full : nat_le 8 (length (live_handles_of journal session)) ≡ false
  pub least : value ≡ free_handle_of journal session

open_judged : (setup : Settings) (journal : List Event) (session : ℕ) (ask : Ask) (value : ℕ) → is_open ask ≡ true → request_verdict setup journal session ask ≡ Permit value → OpenJudged journal session value
unfolding kind_verdict open_verdict
open_judged setup journal session (asks.OpenFile mode name) value is h =
    let a = permit_from (eqb session 0 || is_over journal session) 6 9 value _ h in
    let b = permit_from (eqb (ask_count journal session) setup.requests) 1 setup.requests value _ a.1 in
    let r = row_permit setup journal session kinds.OpenFile (asks.OpenFile mode name) (table_row (phase_of journal session) kinds.OpenFile) value b.1 in
    let o = permit_from (nat_le 8 (length (live_handles_of journal session))) 19 8 value _ r.1 in
    record { full = o.0; least = grant_permit (free_handle_of journal session) mode value (find (λ g. same_label g.name name) (grants_of (account_named setup (verified_user journal session)))) o.1 }
open_judged setup journal session _ value is h = absurd cc

by_frame : (ask : Ask) → is_open ask ≡ true → came_by_frame ask ≡ true
by_frame (asks.OpenFile mode name) h = refl
by_frame _ h = absurd cc

pub gives_least : (setup : Settings) (journal : List Event) (e : Event) → IsNext setup journal e → opens_file e ≡ true → GivesLeast journal e
gives_least setup journal e next opened =
    let is = and_parts (is_open e.ask) (is_permit e.decision) opened in
    let j = open_judged setup journal e.session e.ask (value_of e.decision) is.0 (request_permit setup journal e next (by_frame e.ask is.0) is.1) in
    let room : length (live_handles_of journal e.session) < 8 = grind (arith, nat_tests, j.full) in
    let f = subst (IsFreeNumber (live_handles_of journal e.session)) (sym j.least) (free_number (live_handles_of journal e.session) room) in
    record { room = room; least = j.least; within = f.within; free = f.free }

-- 2. What holds of a list of live handles goes on

-- at most 8, each of 1 to 8, no two the same
record Differ (live : List Event) : Type 0 where
  pub few : length live ≤ 8
  pub within : list_all (λ o. is_number 1 8 (handle_of o)) live ≡ true
  pub distinct : are_distinct ◌==◌ (map handle_of live) ≡ true

filter_few : {X : Type 0} (p : X → Bool) (xs : List X) → length (filter p xs) ≤ length xs
filter_few p [] = omega arith
filter_few p (x ∷ xs) = elim (p x) as (λ b. length (cond b (x ∷ filter p xs) (filter p xs)) ≤ length (x ∷ xs)) [ true ↦ omega (arith, filter_few p xs) | false ↦ omega (arith, filter_few p xs) ]

filter_all : {X : Type 0} (q p : X → Bool) (xs : List X) → list_all q xs ≡ true → list_all q (filter p xs) ≡ true
filter_all q p [] h = refl
filter_all {X} q p (x ∷ xs) h = let here = and_parts (q x) (list_all q xs) h in go (p x) here.0 (filter_all q p xs here.1) where
  go : (b : Bool) → q x ≡ true → list_all q (filter p xs) ≡ true → list_all q (cond b (x ∷ filter p xs) (filter p xs)) ≡ true
  go true first rest = and_from (q x) (list_all q (filter p xs)) first rest
  go false first rest = rest

filter_none : (q : ℕ) (p : Event → Bool) (xs : List Event) → list_any (eqb q) (map handle_of xs) ≡ false → list_any (eqb q) (map handle_of (filter p xs)) ≡ false
filter_none q p [] h = refl
filter_none q p (x ∷ xs) h = let here = or_parts (eqb q (handle_of x)) (list_any (eqb q) (map handle_of xs)) h in go (p x) here.0 (filter_none q p xs here.1) where
  go : (b : Bool) → eqb q (handle_of x) ≡ false → list_any (eqb q) (map handle_of (filter p xs)) ≡ false → list_any (eqb q) (map handle_of (cond b (x ∷ filter p xs) (filter p xs))) ≡ false
  go true first rest = ap (λ c. c || list_any (eqb q) (map handle_of (filter p xs))) first ∙ rest
  go false first rest = rest

filter_distinct : (p : Event → Bool) (xs : List Event) → are_distinct ◌==◌ (map handle_of xs) ≡ true → are_distinct ◌==◌ (map handle_of (filter p xs)) ≡ true
filter_distinct p [] h = refl
filter_distinct p (x ∷ xs) h =
    let here = and_parts (not (list_any (eqb (handle_of x)) (map handle_of xs))) (are_distinct ◌==◌ (map handle_of xs)) h in
    go (p x) (filter_none (handle_of x) p xs (not-true (list_any (eqb (handle_of x)) (map handle_of xs)) here.0)) (filter_distinct p xs here.1) where
      go : (b : Bool) → list_any (eqb (handle_of x)) (map handle_of (filter p xs)) ≡ false → are_distinct ◌==◌ (map handle_of (filter p xs)) ≡ true → are_distinct ◌==◌ (map handle_of (cond b (x ∷ filter p xs) (filter p xs))) ≡ true
      go true first rest = and_from (not (list_any (eqb (handle_of x)) (map handle_of (filter p xs)))) (are_distinct ◌==◌ (map handle_of (filter p xs))) (ap not first) rest
      go false first rest = rest

-- one more that isn't among them
push_distinct : (xs : List Event) (e : Event) → are_distinct ◌==◌ (map handle_of xs) ≡ true → has_handle xs (handle_of e) ≡ false → are_distinct ◌==◌ (map handle_of (xs ++ e ∷ [])) ≡ true
push_distinct [] e h new = refl
push_distinct (x ∷ xs) e h new =
    let here = and_parts (not (list_any (eqb (handle_of x)) (map handle_of xs))) (are_distinct ◌==◌ (map handle_of xs)) h in
    let apart = or_parts (handle_of x == handle_of e) (has_handle xs (handle_of e)) new in
    let front : list_any (eqb (handle_of x)) (map handle_of (xs ++ e ∷ [])) ≡ false =
    ap (list_any (eqb (handle_of x))) (map-append handle_of xs (e ∷ []))
    ∙ list_any-append (eqb (handle_of x)) (map handle_of xs) (handle_of e ∷ [])
    ∙ rw (not-true (list_any (eqb (handle_of x)) (map handle_of xs)) here.0, apart.0) refl in
    and_from (not (list_any (eqb (handle_of x)) (map handle_of (xs ++ e ∷ [])))) (are_distinct ◌==◌ (map handle_of (xs ++ e ∷ []))) (ap not front) (push_distinct xs e here.1 apart.1)

filter_unused : (p : Event → Bool) (xs : List Event) (n : ℕ) → has_handle xs n ≡ false → has_handle (filter p xs) n ≡ false
filter_unused p [] n h = refl
filter_unused p (x ∷ xs) n h = let here = or_parts (handle_of x == n) (has_handle xs n) h in go (p x) here.0 (filter_unused p xs n here.1) where
  go : (b : Bool) → (handle_of x == n) ≡ false → has_handle (filter p xs) n ≡ false → has_handle (cond b (x ∷ filter p xs) (filter p xs)) n ≡ false
  go true first rest = ap (λ c. c || has_handle (filter p xs) n) first ∙ rest
  go false first rest = rest

filter_differ : (p : Event → Bool) (live : List Event) → Differ live → Differ (filter p live)
filter_differ p live d = record { few = omega (arith, d.few, filter_few p live); within = filter_all (λ o. is_number 1 8 (handle_of o)) p live d.within; distinct = filter_distinct p live d.distinct }

push_differ : (live : List Event) (e : Event) → Differ live → length live < 8 → is_number 1 8 (handle_of e) ≡ true → has_handle live (handle_of e) ≡ false → Differ (live ++ e ∷ [])
push_differ live e d room within unused = record {
  few = omega (arith, room, length-append live (e ∷ []));
  within = list_all-append (λ o. is_number 1 8 (handle_of o)) live (e ∷ []) ∙ and_from (list_all (λ o. is_number 1 8 (handle_of o)) live) (is_number 1 8 (handle_of e) && true) d.within (and_from (is_number 1 8 (handle_of e)) true within refl);
  distinct = push_distinct live e d.distinct unused;
}

unused_from : (live : List Event) (n : ℕ) → find (λ o. handle_of o == n) live ≡ None → has_handle live n ≡ false
unused_from [] n h = refl
unused_from (o ∷ os) n h = go (handle_of o == n) h (unused_from os n) where
  go : (b : Bool) → cond b (Some o) (find (λ x. handle_of x == n) os) ≡ None → (find (λ x. handle_of x == n) os ≡ None → has_handle os n ≡ false) → (b || has_handle os n) ≡ false
  go true h rest = absurd cc
  go false h rest = rest h

-- after an event of the session
after_differ : (live : List Event) (e : Event) → Differ live → (opens_file e ≡ true → (length live < 8) × ((is_number 1 8 (handle_of e) ≡ true) × (has_handle live (handle_of e) ≡ false))) → Differ (handles_after live e)
after_differ live e d opened = go (opens_file e) refl where
  kept : List Event
  kept = filter (λ o. not (closes_file (handle_of o) e)) live

  left : Differ kept
  left = filter_differ (λ o. not (closes_file (handle_of o) e)) live d

  go : (b : Bool) → opens_file e ≡ b → Differ (kept ++ cond b (e ∷ []) [])
  go false h = subst Differ (sym (append-nil kept)) left
  go true h =
      let o = opened h in
      push_differ kept e left (omega (arith, o.0, filter_few (λ o. not (closes_file (handle_of o) e)) live)) o.1.0 (filter_unused (λ o. not (closes_file (handle_of o) e)) live (handle_of e) o.1.1)

-- 3. In every legal journal

differ_next : (setup : Settings) (journal : List Event) (e : Event) → IsNext setup journal e → ((session : ℕ) → Differ (live_handles_of journal session)) → (session : ℕ) → Differ (live_handles_of (journal ++ e ∷ []) session)
differ_next setup journal e next before session = go (cases_eq e.session session) where
  room : opens_file e ≡ true → (length (live_handles_of journal e.session) < 8) × ((is_number 1 8 (handle_of e) ≡ true) × (has_handle (live_handles_of journal e.session) (handle_of e) ≡ false))
  room opened = let g = gives_least setup journal e next opened in (g.room, (g.within, unused_from (live_handles_of journal e.session) (handle_of e) g.free))

  go : (e.session ≡ session) ⊎ (e.session ≢ session) → Differ (live_handles_of (journal ++ e ∷ []) session)
  go (inr ne) = subst Differ (sym (live_handles_of-other journal e session ne)) (before session)
  go (inl same) =
      let here : Differ (live_handles_of (journal ++ e ∷ []) e.session) = subst Differ (sym (live_handles_of-own journal e e.session refl)) (after_differ (live_handles_of journal e.session) e (before e.session) room) in
      subst (λ s. Differ (live_handles_of (journal ++ e ∷ []) s)) same here

differ_none : (session : ℕ) → Differ (live_handles_of [] session)
unfolding live_handles_of
differ_none session = record { few = omega arith; within = refl; distinct = refl }

pub handles_differ : (setup : Settings) (journal : List Event) → IsLegal setup journal → (session : ℕ) → HandlesDiffer journal session
handles_differ setup journal legal session = let d = by_events setup AllDiffer differ_none more journal legal session in record { few = d.few; within = d.within; distinct = d.distinct } where
  AllDiffer : List Event → Type 0
  AllDiffer j = (s : ℕ) → Differ (live_handles_of j s)

  more : (j : List Event) (e : Event) → IsNext setup j e → AllDiffer j → AllDiffer (j ++ e ∷ [])
  more j e next before = differ_next setup j e next before

-- 4. No session has a live handle before its user's child runs

only_user : (phase : Phase) → (table_row phase kinds.OpenFile).permitted ≡ true → phase ≡ User
only_user Pre h = absurd cc
only_user Challenged h = absurd cc
only_user Verified h = absurd cc
only_user User h = refl
only_user Over h = absurd cc

open_kind : (ask : Ask) → is_open ask ≡ true → kind_of ask ≡ Some kinds.OpenFile
open_kind (asks.OpenFile mode name) h = refl
open_kind _ h = absurd cc

-- a permitted OPEN comes in User
pub opened_in_user : (setup : Settings) (journal : List Event) (e : Event) → IsNext setup journal e → opens_file e ≡ true → phase_of journal e.session ≡ User
opened_in_user setup journal e next opened =
    let is = and_parts (is_open e.ask) (is_permit e.decision) opened in
    only_user (phase_of journal e.session) ((permitted_live setup journal e next (by_frame e.ask is.0) is.1).cell kinds.OpenFile (open_kind e.ask is.0))

record NoneBefore (journal : List Event) (session : ℕ) : Type 0 where
  pub none : has_event journal session exports ≡ false → live_handles_of journal session ≡ []

none_own : (setup : Settings) (journal : List Event) (e : Event) → IsNext setup journal e → NoneBefore journal e.session → NoneBefore (journal ++ e ∷ []) e.session
none_own setup journal e next before = record {
  none = λ h.
      let kept = or_parts (has_event journal e.session exports) (exports e) (sym (has_event-own journal e e.session exports refl) ∙ h) in
      live_handles_of-own journal e e.session refl ∙ ap (λ l. handles_after l e) (before.none kept.0) ∙ go (opens_file e) refl kept.0;
} where
  go : (b : Bool) → opens_file e ≡ b → has_event journal e.session exports ≡ false → cond b (e ∷ []) [] ≡ []
  go false is h = refl
  go true is h = absurd (false≢true (sym h ∙ (phase_tests journal e.session User (opened_in_user setup journal e next is)).1))

none_next : (setup : Settings) (journal : List Event) (e : Event) → IsNext setup journal e → ((session : ℕ) → NoneBefore journal session) → (session : ℕ) → NoneBefore (journal ++ e ∷ []) session
none_next setup journal e next before session = go (cases_eq e.session session) where
  go : (e.session ≡ session) ⊎ (e.session ≢ session) → NoneBefore (journal ++ e ∷ []) session
  go (inl same) = subst (NoneBefore (journal ++ e ∷ [])) same (none_own setup journal e next (before e.session))
  go (inr other) = record { none = λ h. live_handles_of-other journal e session other ∙ (before session).none (sym (has_event-other journal e session exports other) ∙ h) }

none_first : (session : ℕ) → live_handles_of [] session ≡ []
unfolding live_handles_of
none_first session = refl

pub no_handles_before : (setup : Settings) (journal : List Event) → IsLegal setup journal → (session : ℕ) → has_event journal session exports ≡ false → live_handles_of journal session ≡ []
no_handles_before setup journal legal session h =
    let n : NoneBefore journal session = by_events setup (λ j. (s : ℕ) → NoneBefore j s) (λ s. record { none = λ k. none_first s }) (λ j e next before. none_next setup j e next before) journal legal session in
    n.none h
