-- The live handles of a session, from an event on.
use Rattle.std.proofs.Common.{◌≡◌, ℕ, ◌+◌, ◌<◌, ◌≤◌, Bool, true, false, ◌&&◌, ◌==◌, not, cond, eqb, List, [], ◌∷◌, length, get_or, drop, Some, refl, sym, ap, ◌∙◌}
use Rattle.std.specs.List.{find, list_any}
use Rattle.std.proofs.lemmas.List.{drop_all, drop_more}
use Rattle.policy_model.specs.declared.event.Event.{Event}
use Rattle.policy_model.specs.Asks.{closes_file, opens_file}
use Rattle.policy_model.specs.Cases.{handle_of}
use Rattle.policy_model.specs.Handles.{live_handles_of, live_opens, handle_opening}
use Rattle.policy_model.specs.Journal.{events_of, is_own}
use Rattle.policy_model.proofs.Lists.{list_any-filter}

-- an event opened a handle that no event after it closes
abbrev pub is_live : ℕ → Event → List Event → Bool
is_live session e behind = is_own session opens_file e && not (list_any (is_own session (closes_file (handle_of e))) behind)

pub live_handles_of-cons : (session : ℕ) (e : Event) (events : List Event) → live_handles_of (e ∷ events) session ≡ cond (is_live session e events) (e ∷ live_handles_of events session) (live_handles_of events session)
unfolding live_handles_of
live_handles_of-cons session e events = go (eqb e.session session) where
  own : List Event
  own = events_of events session

  closed : list_any (closes_file (handle_of e)) own ≡ list_any (is_own session (closes_file (handle_of e))) events
  closed = list_any-filter (closes_file (handle_of e)) (λ x. x.session == session) events

  go : (b : Bool) → live_opens (cond b (e ∷ own) own) ≡ cond (b && opens_file e && not (list_any (is_own session (closes_file (handle_of e))) events)) (e ∷ live_opens own) (live_opens own)
  go true = ap (λ c. cond (opens_file e && not c) (e ∷ live_opens own) (live_opens own)) closed
  go false = refl

-- the live handles from a place on
pub live_handles_of-drop : (session : ℕ) (journal : List Event) (i : ℕ) (e : Event) → i < length journal → e ≡ get_or journal i e → live_handles_of (drop i journal) session ≡ cond (is_live session e (drop (i + 1) journal)) (e ∷ live_handles_of (drop (i + 1) journal) session) (live_handles_of (drop (i + 1) journal) session)
live_handles_of-drop session journal i e lt here =
    ap (λ j. live_handles_of j session) (drop_more journal i e lt ∙ ap (λ x. x ∷ drop (i + 1) journal) (sym here))
    ∙ live_handles_of-cons session e (drop (i + 1) journal)

pub live_handles_of-end : (session : ℕ) (journal : List Event) (i : ℕ) → length journal ≤ i → live_handles_of (drop i journal) session ≡ []
unfolding live_handles_of
live_handles_of-end session journal i le = ap (λ j. live_handles_of j session) (drop_all i journal le)

-- the one that opened a handle, from a place on
pub handle_opening-live : (session handle : ℕ) (journal : List Event) (i : ℕ) (e : Event) → i < length journal → e ≡ get_or journal i e → is_live session e (drop (i + 1) journal) ≡ true → handle_opening (drop i journal) session handle ≡ cond (handle_of e == handle) (Some e) (handle_opening (drop (i + 1) journal) session handle)
handle_opening-live session handle journal i e lt here live =
    ap (find (λ x. handle_of x == handle)) (live_handles_of-drop session journal i e lt here ∙ ap (λ b. cond b (e ∷ live_handles_of (drop (i + 1) journal) session) (live_handles_of (drop (i + 1) journal) session)) live)

pub handle_opening-other : (session handle : ℕ) (journal : List Event) (i : ℕ) (e : Event) → i < length journal → e ≡ get_or journal i e → is_live session e (drop (i + 1) journal) ≡ false → handle_opening (drop i journal) session handle ≡ handle_opening (drop (i + 1) journal) session handle
handle_opening-other session handle journal i e lt here live =
    ap (find (λ x. handle_of x == handle)) (live_handles_of-drop session journal i e lt here ∙ ap (λ b. cond b (e ∷ live_handles_of (drop (i + 1) journal) session) (live_handles_of (drop (i + 1) journal) session)) live)
