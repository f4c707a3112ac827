-- A user for whom one session asks alone.
use Rattle.std.proofs.Common.{◌≡◌, ◌≢◌, ℕ, zero, suc, ◌+◌, ◌<◌, ◌≤◌, arith, drop, get_or, length, Bool, true, false, not, ◌&&◌, ◌||◌, cond, eqb, List, [], ◌∷◌, ◌++◌}
use Rattle.std.proofs.Common.{Option, Some, None, refl, sym, ap, subst, ◌∙◌, filter}
use Rattle.std.specs.List.{filter_map, last_or, list_any}
use Rattle.std.specs.Option.{option_and_then}
use Rattle.std.proofs.lemmas.Bool.{and_from, and_parts, eq-eqb, eqb-true, false≢true, false_from_ne_true, or_from, or_parts}
use Rattle.std.proofs.lemmas.List.{drop_more}
use Rattle.std.proofs.lemmas.List.Folds.{list_any-append}
use Rattle.request_catalogue.specs.declared.texts.Name.{Name}
use Rattle.policy_model.specs.declared.event.Ask.{Ask}
use Rattle.policy_model.specs.declared.event.Ask.TheVariants as asks
use Rattle.policy_model.specs.declared.event.Event.{Event}
use Rattle.policy_model.specs.Asks.{accepts, challenge_name, is_permit, is_user, reserves, takes, takes_user, value_of}
use Rattle.policy_model.specs.Cases.{holder_by}
use Rattle.policy_model.specs.Journal.{is_own, last_event, places_after}
use Rattle.policy_model.specs.Logins.{challenged_user, holder_of, last_taking_of, replies_of, reply_for, was_given_up}
use Rattle.policy_model.specs.Phases.{is_over}
use Rattle.policy_model.specs.Settings.{same_name}
use Rattle.session_laws.proofs.Permits.{same_from_same_name}
use Rattle.login_laws.specs.Login.{ComesAfter, asks_for}
use Rattle.welcome_rows.specs.Met.{IsAskedAlone, asks_for_other, stands_in_way}

-- ---- by a look at each event and at those after it

-- no event stands in the way of a later one that asks for the user
abbrev pub StandsClear : Name → List Event → Type 0
StandsClear user [] = Unit {0}
StandsClear user (x ∷ later) =
    (list_any (λ e. asks_for user e.ask && stands_in_way user e.session x) later ≡ false) × StandsClear user later

none_later : (test : Event → Bool) (before rest : List Event) (e : Event) → list_any test (before ++ e ∷ rest) ≡ false
    → test e ≡ false
none_later test [] rest e none = (or_parts (test e) (list_any test rest) none).0
none_later test (x ∷ before) rest e none =
    none_later test before rest e (or_parts (test x) (list_any test (before ++ e ∷ rest)) none).1

clear_before : (user : Name) (before rest : List Event) (e : Event) → StandsClear user (before ++ e ∷ rest)
    → asks_for user e.ask ≡ true → list_any (stands_in_way user e.session) before ≡ false
clear_before user [] rest e clear asking = refl
clear_before user (x ∷ before) rest e clear asking =
    let here = none_later (λ y. asks_for user y.ask && stands_in_way user y.session x) before rest e clear.0 in
    let free : stands_in_way user e.session x ≡ false = sym (ap (λ b. b && stands_in_way user e.session x) asking) ∙ here
    in
    ap (λ b. b || list_any (stands_in_way user e.session) before) free ∙ clear_before user before rest e clear.1 asking

asked_alone : (user : Name) (journal : List Event) → StandsClear user journal → IsAskedAlone journal user
asked_alone user journal clear before e comes asking =
    clear_before user before comes.rest e (subst (StandsClear user) comes.parts clear) asking

-- one event more, from the end on
pub one_clear : (user : Name) (journal : List Event) (i : ℕ) (x : Event) → i < length journal
    → x ≡ get_or journal i x
    → list_any (λ e. asks_for user e.ask && stands_in_way user e.session x) (drop (i + 1) journal) ≡ false
    → StandsClear user (drop (i + 1) journal) → StandsClear user (drop i journal)
one_clear user journal i x lt is free clear =
    subst (StandsClear user) (sym (drop_more journal i x lt ∙ ap (λ (y : Event). y ∷ drop (i + 1) journal) (sym is)))
    (free, clear)

none_left : (xs : List Event) (i : ℕ) → length xs ≤ i → drop i xs ≡ []
none_left [] zero le = refl
none_left [] (suc i) le = refl
none_left (x ∷ xs) zero le = absurd (omega (arith, le))
none_left (x ∷ xs) (suc i) le = none_left xs i (omega (arith, le))

pub all_clear : (user : Name) (journal : List Event) (i : ℕ) → length journal ≤ i
    → (StandsClear user (drop i journal) → StandsClear user journal) → IsAskedAlone journal user
all_clear user journal i le from =
    asked_alone user journal (from (subst (StandsClear user) (sym (none_left journal i le)) tt))

-- ---- what one event that doesn't stand in the way says

own_asking : (user : Name) (session : ℕ) (e : Event) → stands_in_way user session e ≡ false
    → asks_for user e.ask ≡ true → e.session ≡ session
own_asking user session e free asking =
    let first = (or_parts (asks_for user e.ask && not (eqb e.session session)) (accepts e && eqb e.session session)
    free).0 in
    eqb-true e.session session (by (eqb e.session session) (sym (ap (λ b. b && not (eqb e.session session)) asking)
    ∙ first)) where
      by : (b : Bool) → not b ≡ false → b ≡ true
      by true h = refl
      by false h = absurd cc

no_accepting : (user : Name) (session : ℕ) (e : Event) → stands_in_way user session e ≡ false → accepts e ≡ true
    → e.session ≢ session
no_accepting user session e free accepted same =
    let second = (or_parts (asks_for user e.ask && not (eqb e.session session)) (accepts e && eqb e.session session)
    free).1 in
    false≢true (sym second ∙ and_from (accepts e) (eqb e.session session) accepted (eq-eqb e.session session same))

-- ---- the last of some events fails where all do

abbrev Fails : (Event → Bool) → Option Event → Type 0
Fails p None = Unit {0}
Fails p (Some e) = p e ≡ false

last_fails : (p q : Event → Bool) (o : Option Event) (xs : List Event) → Fails p o → list_any p xs ≡ false
    → Fails p (last_or o (filter q xs))
last_fails p q o [] here none = here
last_fails p q o (e ∷ xs) here none = by_test (q e) (λ first first_fails. last_fails p q first xs first_fails both.1)
  where
    both : (p e ≡ false) × (list_any p xs ≡ false)
    both = or_parts (p e) (list_any p xs) none

    by_test : (b : Bool) → ((first : Option Event) → Fails p first → Fails p (last_or first (filter q xs)))
        → Fails p (last_or o (cond b (e ∷ filter q xs) (filter q xs)))
    by_test true later = later (Some e) both.0
    by_test false later = later o here

-- ---- so nobody else holds the user

abbrev IsOf : ℕ → Option Event → Type 0
IsOf session None = Unit {0}
IsOf session (Some e) = e.session ≡ session

-- the last of the events that pass, where each of them is of this session
last_of : (q : Event → Bool) (user : Name) (session : ℕ) (o : Option Event) (xs : List Event)
    → ((e : Event) → q e ≡ true → asks_for user e.ask ≡ true) → IsOf session o
    → list_any (stands_in_way user session) xs ≡ false → IsOf session (last_or o (filter q xs))
last_of q user session o [] asking here free = here
last_of q user session o (e ∷ xs) asking here free =
    by_test (q e) refl (λ first is. last_of q user session first xs asking is both.1) where
      both : (stands_in_way user session e ≡ false) × (list_any (stands_in_way user session) xs ≡ false)
      both = or_parts (stands_in_way user session e) (list_any (stands_in_way user session) xs) free

      by_test : (b : Bool) → q e ≡ b
          → ((first : Option Event) → IsOf session first → IsOf session (last_or first (filter q xs)))
          → IsOf session (last_or o (cond b (e ∷ filter q xs) (filter q xs)))
      by_test true is later = later (Some e) (own_asking user session e both.0 (asking e is))
      by_test false is later = later o here

reserving_asks : (user : Name) (e : Event) → reserves user e ≡ true → asks_for user e.ask ≡ true
reserving_asks user e h = (and_parts (asks_for user e.ask) (is_permit e.decision) (and_parts (takes_user user e) _
    h).0).0

pub holder_own : (user : Name) (session : ℕ) (before : List Event) → list_any (stands_in_way user session) before ≡ false
    → (holder : ℕ) → holder_of before user ≡ Some holder → holder ≡ session
unfolding holder_of last_taking_of
holder_own user session before free holder is =
    by_last (last_taking_of before user) (last_of (reserves user) user session None before (reserving_asks user) tt free)
    is where
      by_last : (o : Option Event) → IsOf session o → holder_by before (was_given_up before user) o ≡ Some holder
          → holder ≡ session
      by_last None own h = absurd cc
      by_last (Some e) own h = by (was_given_up before user || is_over before e.session) h where
        by : (b : Bool) → cond b None (Some e.session) ≡ Some holder → holder ≡ session
        by true h' = absurd cc
        by false h' = let same : e.session ≡ holder = cc in sym same ∙ own

-- ---- and nobody replied for the user

-- the last of a session's own events that pass is its own
last_own : (q : Event → Bool) (session : ℕ) (o : Option Event) (xs : List Event) → IsOf session o
    → IsOf session (last_or o (filter (is_own session q) xs))
last_own q session o [] here = here
last_own q session o (e ∷ xs) here =
    by_test (is_own session q e) refl (λ first is. last_own q session first xs is) where
      by_test : (b : Bool) → is_own session q e ≡ b
          → ((first : Option Event) → IsOf session first → IsOf session (last_or first (filter (is_own session q)
          xs)))
          → IsOf session (last_or o (cond b (e ∷ filter (is_own session q) xs) (filter (is_own session q) xs)))
      by_test true is later = later (Some e) (eqb-true e.session session (and_parts (eqb e.session session) (q e) is).0)
      by_test false is later = later o here

-- a session of another number isn't challenged for the user
unchallenged : (user : Name) (session other : ℕ) (before : List Event)
    → list_any (stands_in_way user session) before ≡ false → other ≢ session
    → is_user user (challenged_user before other) ≡ false
unfolding challenged_user
unchallenged user session other before free away =
    go (last_event before other takes) (last_own takes other None before tt)
    (last_fails (stands_in_way user session) (is_own other takes) None before tt free) where
      go : (o : Option Event) → IsOf other o → Fails (stands_in_way user session) o
          → is_user user (option_and_then (λ e. challenge_name e.ask) o) ≡ false
      go None own free' = refl
      go (Some e) own free' = false_from_ne_true (is_user user (challenge_name e.ask)) (λ asking.
          away (sym own ∙ own_asking user session e free' asking))

none_replied : (user : Name) (session : ℕ) (before events : List Event)
    → list_any (stands_in_way user session) before ≡ false → list_any (stands_in_way user session) events ≡ false
    → filter_map (reply_for user) (places_after before events) ≡ []
none_replied user session before [] earlier none = refl
none_replied user session before (e ∷ events) earlier none =
    rw unreplied (none_replied user session (before ++ e ∷ []) events next both.1) where
      both : (stands_in_way user session e ≡ false) × (list_any (stands_in_way user session) events ≡ false)
      both = or_parts (stands_in_way user session e) (list_any (stands_in_way user session) events) none

      next : list_any (stands_in_way user session) (before ++ e ∷ []) ≡ false
      next = list_any-append (stands_in_way user session) before (e ∷ []) ∙ or_from _ _ earlier (or_from _ _ both.0 refl)

      by_test : (b : Bool) → accepts e ≡ b
          → cond (b && is_user user (challenged_user before e.session)) (Some (value_of e.decision)) None ≡ None
      by_test false is = refl
      by_test true is =
          ap (λ b. cond b (Some (value_of e.decision)) None)
          (unchallenged user session e.session before earlier (no_accepting user session e both.0 is))

      unreplied : cond (accepts e && is_user user (challenged_user before e.session)) (Some (value_of e.decision)) None
          ≡ None
      unreplied = by_test (accepts e) refl

pub unreplied_for : (user : Name) (session : ℕ) (before : List Event)
    → list_any (stands_in_way user session) before ≡ false → replies_of before user ≡ []
unfolding replies_of
unreplied_for user session before none = none_replied user session [] before refl none

-- ---- where nobody else is asked for, nobody else is challenged

asked_name : (user name : Name) (ask : Ask) → asks_for_other user ask ≡ false → challenge_name ask ≡ Some name
    → name ≡ user
asked_name user name (asks.Challenge other now) free is =
    let same : other ≡ name = cc in
    let named : same_name other user ≡ true = by (same_name other user) free in
    sym same ∙ same_from_same_name other user named where
      by : (b : Bool) → not b ≡ false → b ≡ true
      by true h = refl
      by false h = absurd cc
asked_name user name _ free is = absurd cc

pub challenged_only : (user name : Name) (session : ℕ) (before : List Event)
    → list_any (λ e. asks_for_other user e.ask) before ≡ false → challenged_user before session ≡ Some name
    → name ≡ user
unfolding challenged_user
challenged_only user name session before free is =
    go (last_event before session takes)
    (last_fails (λ e. asks_for_other user e.ask) (is_own session takes) None before tt free) is where
      go : (o : Option Event) → Fails (λ e. asks_for_other user e.ask) o
          → option_and_then (λ e. challenge_name e.ask) o ≡ Some name → name ≡ user
      go None free' h = absurd cc
      go (Some e) free' h = asked_name user name e.ask free' h

any_front : (test : Event → Bool) (before rest : List Event) → list_any test (before ++ rest) ≡ false
    → list_any test before ≡ false
any_front test [] rest none = refl
any_front test (x ∷ before) rest none =
    let both = or_parts (test x) (list_any test (before ++ rest)) none in
    ap (λ b. b || list_any test before) both.0 ∙ any_front test before rest both.1

pub free_before : (user : Name) (journal before : List Event) (e : Event)
    → list_any (λ y. asks_for_other user y.ask) journal ≡ false → ComesAfter journal before e
    → list_any (λ y. asks_for_other user y.ask) before ≡ false
free_before user journal before e none comes =
    any_front (λ y. asks_for_other user y.ask) before (e ∷ comes.rest)
    (subst (λ j. list_any (λ y. asks_for_other user y.ask) j ≡ false) comes.parts none)
