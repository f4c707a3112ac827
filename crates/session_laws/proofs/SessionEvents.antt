-- What one more event makes of a session's events: of one that isn't its own nothing, its own is put after them, and of a session with a number that wasn't given yet there is none.
use Rattle.std.proofs.Common.{◌≡◌, ◌≢◌, ℕ, ◌+◌, ◌<◌, Bool, true, false, not, ◌&&◌, ◌||◌, ◌==◌, cond, eqb, List, [], ◌∷◌, ◌++◌, Some, None, filter, count_by, refl, sym, ap, ◌∙◌, arith, eq-eqb, inl, inr, ◌⊎◌, length, ◌≤◌}
use Rattle.std.proofs.Math.Bool.{or-false}
use Rattle.std.specs.List.{fold, last_or, list_any}
use Rattle.std.proofs.lemmas.Bool.{cases_eq, eqb-true}
use Rattle.std.proofs.lemmas.Bool.Decides.{nat_tests}
use Rattle.std.proofs.lemmas.List.{append-nil}
use Rattle.std.proofs.lemmas.List.Folds.{list_any-append}
use Rattle.std.proofs.lemmas.List.Sums.{count_by-le-length, fold_push, length-filter}
use Rattle.policy_model.specs.declared.event.Event.{Event}
use Rattle.policy_model.specs.Asks.{came_by_frame, ends_session, opens}
use Rattle.policy_model.specs.Journal.{ask_count, count_of, events_of, has_event, is_own, last_event}
use Rattle.policy_model.specs.Phases.{is_over}
use Rattle.policy_model.specs.Runs.{AreNumbered}
use Rattle.policy_model.proofs.Lists.{filter-push, last_or-filter_push}
use Rattle.policy_model.proofs.Sessions.{ask_count-push}

-- 1. Tests of an event's session

pub own_is : (e : Event) (session : ℕ) (p : Event → Bool) → e.session ≡ session → is_own session p e ≡ p e
own_is e session p own = ap (λ b. b && p e) (eq-eqb e.session session own)

pub other_is : (e : Event) (session : ℕ) (p : Event → Bool) → e.session ≢ session → is_own session p e ≡ false
other_is e session p other =
    let apart : eqb e.session session ≡ false = grind (arith, nat_tests, other) in
    ap (λ b. b && p e) apart

-- an event that passes no test of the session's own isn't one that passes
pub own_false : (e : Event) (session : ℕ) (p : Event → Bool) → (e.session ≡ session → p e ≡ false) → is_own session p e ≡ false
own_false e session p h = go (eqb e.session session) refl where
  go : (b : Bool) → eqb e.session session ≡ b → (b && p e) ≡ false
  go true is = h (eqb-true e.session session is)
  go false is = refl

-- 2. The events

pub events_of-own : (journal : List Event) (e : Event) (session : ℕ) → e.session ≡ session → events_of (journal ++ e ∷ []) session ≡ events_of journal session ++ e ∷ []
events_of-own journal e session own =
    let same : eqb e.session session ≡ true = eq-eqb e.session session own in
    filter-push (λ x. x.session == session) journal e ∙ rw same refl

pub events_of-other : (journal : List Event) (e : Event) (session : ℕ) → e.session ≢ session → events_of (journal ++ e ∷ []) session ≡ events_of journal session
events_of-other journal e session other =
    let apart : eqb e.session session ≡ false = grind (arith, nat_tests, other) in
    filter-push (λ x. x.session == session) journal e ∙ rw apart (append-nil (events_of journal session))

pub events_of-new : (journal : List Event) (last session : ℕ) → AreNumbered journal last → last < session → events_of journal session ≡ []
events_of-new [] last session all lt = refl
events_of-new (e ∷ es) last session all lt =
    let other : eqb e.session session ≡ false = grind (arith, nat_tests, all.0) in
    ap (λ b. cond b (e ∷ events_of es session) (events_of es session)) other ∙ events_of-new es last session all.1 lt

-- 3. Whether some event of the session passes a test

or_rest : (a b : Bool) → (a || (b || false)) ≡ (a || b)
or_rest true b = refl
or_rest false true = refl
or_rest false false = refl

pub has_event-push : (journal : List Event) (e : Event) (session : ℕ) (p : Event → Bool) → has_event (journal ++ e ∷ []) session p ≡ (has_event journal session p || is_own session p e)
has_event-push journal e session p = list_any-append (is_own session p) journal (e ∷ []) ∙ or_rest (has_event journal session p) (is_own session p e)

pub has_event-own : (journal : List Event) (e : Event) (session : ℕ) (p : Event → Bool) → e.session ≡ session → has_event (journal ++ e ∷ []) session p ≡ (has_event journal session p || p e)
has_event-own journal e session p own = has_event-push journal e session p ∙ ap (λ b. has_event journal session p || b) (own_is e session p own)

pub has_event-other : (journal : List Event) (e : Event) (session : ℕ) (p : Event → Bool) → e.session ≢ session → has_event (journal ++ e ∷ []) session p ≡ has_event journal session p
has_event-other journal e session p other = has_event-push journal e session p ∙ ap (λ b. has_event journal session p || b) (other_is e session p other) ∙ or-false (has_event journal session p)

-- none passes that isn't there
pub has_event-none : (journal : List Event) (e : Event) (session : ℕ) (p : Event → Bool) → has_event journal session p ≡ false → is_own session p e ≡ false → has_event (journal ++ e ∷ []) session p ≡ false
has_event-none journal e session p old new = has_event-push journal e session p ∙ ap (λ b. b || is_own session p e) old ∙ new

pub has_event-new : (journal : List Event) (last session : ℕ) (p : Event → Bool) → AreNumbered journal last → last < session → has_event journal session p ≡ false
has_event-new [] last session p all lt = refl
has_event-new (e ∷ es) last session p all lt =
    let other : eqb e.session session ≡ false = grind (arith, nat_tests, all.0) in
    ap (λ b. b && p e || has_event es session p) other ∙ has_event-new es last session p all.1 lt

-- 4. How many events of the session pass a test

pub count_of-push : (journal : List Event) (e : Event) (session : ℕ) (p : Event → Bool) → count_of (journal ++ e ∷ []) session p ≡ count_of journal session p + cond (is_own session p e) 1 0
count_of-push journal e session p = fold_push (λ n x. n + cond (is_own session p x) 1 0) 0 journal e

pub count_of-own : (journal : List Event) (e : Event) (session : ℕ) (p : Event → Bool) → e.session ≡ session → count_of (journal ++ e ∷ []) session p ≡ count_of journal session p + cond (p e) 1 0
count_of-own journal e session p own = count_of-push journal e session p ∙ ap (λ b. count_of journal session p + cond b 1 0) (own_is e session p own)

pub count_of-other : (journal : List Event) (e : Event) (session : ℕ) (p : Event → Bool) → e.session ≢ session → count_of (journal ++ e ∷ []) session p ≡ count_of journal session p
count_of-other journal e session p other = count_of-push journal e session p ∙ ap (λ b. count_of journal session p + cond b 1 0) (other_is e session p other) ∙ omega arith

pub count_of-new : (journal : List Event) (last session : ℕ) (p : Event → Bool) → AreNumbered journal last → last < session → count_of journal session p ≡ 0
count_of-new journal last session p all lt = go journal 0 all where
  go : (es : List Event) (n : ℕ) → AreNumbered es last → fold (λ n x. n + cond (is_own session p x) 1 0) n es ≡ n
  go [] n all = refl
  go (e ∷ es) n all =
      let other : eqb e.session session ≡ false = grind (arith, nat_tests, all.0) in
      ap (λ b. fold (λ n x. n + cond (is_own session p x) 1 0) (n + cond (b && p e) 1 0) es) other ∙ go es (n + 0) all.1 ∙ omega arith

-- the asks that the session has made; of a number that wasn't given yet they are `ask_count-new` of the policy
pub ask_count-own : (journal : List Event) (e : Event) (session : ℕ) → e.session ≡ session → ask_count (journal ++ e ∷ []) session ≡ ask_count journal session + cond (came_by_frame e.ask) 1 0
ask_count-own journal e session own = ask_count-push journal e session ∙ ap (λ b. ask_count journal session + cond (b && came_by_frame e.ask) 1 0) (eq-eqb e.session session own)

pub ask_count-other : (journal : List Event) (e : Event) (session : ℕ) → e.session ≢ session → ask_count (journal ++ e ∷ []) session ≡ ask_count journal session
ask_count-other journal e session other = ap (count_by (λ x. came_by_frame x.ask)) (events_of-other journal e session other)

-- 5. The last event of the session that passes a test

pub last_event-push : (journal : List Event) (e : Event) (session : ℕ) (p : Event → Bool) → last_event (journal ++ e ∷ []) session p ≡ cond (is_own session p e) (Some e) (last_event journal session p)
last_event-push journal e session p = last_or-filter_push (is_own session p) journal e

pub last_event-own : (journal : List Event) (e : Event) (session : ℕ) (p : Event → Bool) → e.session ≡ session → last_event (journal ++ e ∷ []) session p ≡ cond (p e) (Some e) (last_event journal session p)
last_event-own journal e session p own = last_event-push journal e session p ∙ ap (λ b. cond b (Some e) (last_event journal session p)) (own_is e session p own)

pub last_event-other : (journal : List Event) (e : Event) (session : ℕ) (p : Event → Bool) → e.session ≢ session → last_event (journal ++ e ∷ []) session p ≡ last_event journal session p
last_event-other journal e session p other = last_event-push journal e session p ∙ ap (λ b. cond b (Some e) (last_event journal session p)) (other_is e session p other)

pub last_event-new : (journal : List Event) (last session : ℕ) (p : Event → Bool) → AreNumbered journal last → last < session → last_event journal session p ≡ None
last_event-new [] last session p all lt = refl
last_event-new (e ∷ es) last session p all lt =
    let other : eqb e.session session ≡ false = grind (arith, nat_tests, all.0) in
    ap (λ b. last_or None (cond (b && p e) (e ∷ filter (is_own session p) es) (filter (is_own session p) es))) other ∙ last_event-new es last session p all.1 lt

-- 6. Whether the session is over

-- with one more event of it that doesn't open it
pub is_over-own : (journal : List Event) (e : Event) (session : ℕ) → e.session ≡ session → opens e ≡ false → is_over (journal ++ e ∷ []) session ≡ (is_over journal session || ends_session e)
is_over-own journal e session own closed =
    ap (λ es. not (list_any opens es) || list_any ends_session es) (events_of-own journal e session own)
    ∙ ap (λ b. not b || list_any ends_session (events_of journal session ++ e ∷ [])) (list_any-append opens (events_of journal session) (e ∷ []) ∙ or_rest (list_any opens (events_of journal session)) (opens e))
    ∙ ap (λ b. not (list_any opens (events_of journal session) || opens e) || b) (list_any-append ends_session (events_of journal session) (e ∷ []) ∙ or_rest (list_any ends_session (events_of journal session)) (ends_session e))
    ∙ go (list_any opens (events_of journal session)) (list_any ends_session (events_of journal session)) (ends_session e) (opens e) closed where
      go : (a b c o : Bool) → o ≡ false → (not (a || o) || (b || c)) ≡ ((not a || b) || c)
      go true b c o h = refl
      go false b c o h = rw h refl

pub is_over-other : (journal : List Event) (e : Event) (session : ℕ) → e.session ≢ session → is_over (journal ++ e ∷ []) session ≡ is_over journal session
is_over-other journal e session other = ap (λ es. not (list_any opens es) || list_any ends_session es) (events_of-other journal e session other)

-- with one more event, that doesn't open it
pub is_over-push : (journal : List Event) (e : Event) (session : ℕ) → (opens e ≡ true → e.session ≢ session) → is_over (journal ++ e ∷ []) session ≡ (is_over journal session || is_own session ends_session e)
is_over-push journal e session other = go (cases_eq e.session session) (opens e) refl where
  go : (e.session ≡ session) ⊎ (e.session ≢ session) → (b : Bool) → opens e ≡ b → is_over (journal ++ e ∷ []) session ≡ (is_over journal session || is_own session ends_session e)
  go (inr ne) b h =
      is_over-other journal e session ne
      ∙ sym (ap (λ b. is_over journal session || b) (other_is e session ends_session ne) ∙ or-false (is_over journal session))
  go (inl same) true h = absurd (other h same)
  go (inl same) false h = is_over-own journal e session same h ∙ ap (λ b. is_over journal session || b) (sym (own_is e session ends_session same))

-- a session that is opened now isn't over
pub is_over-opened : (journal : List Event) (e : Event) → events_of journal e.session ≡ [] → opens e ≡ true → ends_session e ≡ false → is_over (journal ++ e ∷ []) e.session ≡ false
is_over-opened journal e none opened on =
    ap (λ es. not (list_any opens es) || list_any ends_session es) (events_of-own journal e e.session refl ∙ ap (λ es. es ++ e ∷ []) none)
    ∙ rw (opened, on) refl

-- 7. No more is counted of a session than there are events

pub count_of_few : (journal : List Event) (session : ℕ) (p : Event → Bool) → count_of journal session p ≤ length journal
count_of_few journal session p = count_by-le-length (is_own session p) journal

pub ask_count_few : (journal : List Event) (session : ℕ) → ask_count journal session ≤ length journal
ask_count_few journal session =
    let asks = count_by-le-length (λ e. came_by_frame e.ask) (events_of journal session) in
    let own = count_by-le-length (λ e. e.session == session) journal in
    omega (arith, asks, own, length-filter (λ e. e.session == session) journal)
