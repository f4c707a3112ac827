-- What one more event makes of a session's live handles.
use Rattle.std.proofs.Common.{◌≡◌, ◌≢◌, ℕ, ◌<◌, Bool, true, false, not, ◌&&◌, ◌||◌, cond, List, [], ◌∷◌, ◌++◌, filter, refl, sym, ap, ◌∙◌}
use Rattle.std.specs.List.{list_any}
use Rattle.std.proofs.lemmas.List.Folds.{list_any-append}
use Rattle.policy_model.specs.declared.event.Event.{Event}
use Rattle.policy_model.specs.Asks.{closes_file, opens_file}
use Rattle.policy_model.specs.Cases.{handle_of}
use Rattle.policy_model.specs.Handles.{live_handles_of, live_opens}
use Rattle.policy_model.specs.Journal.{events_of}
use Rattle.policy_model.specs.Runs.{AreNumbered}
use Rattle.session_laws.specs.Handled.{handles_after}
use Rattle.session_laws.proofs.SessionEvents.{events_of-new, events_of-other, events_of-own}

by_tests : (o c k : Bool) (e : Event) (new old front back : List Event) → new ≡ front ++ back → cond (o && not (c || (k || false))) (e ∷ new) new ≡ cond (o && not c) (cond (not k) (e ∷ front) front) front ++ back
by_tests false c k e new old front back h = h
by_tests true true k e new old front back h = h
by_tests true false true e new old front back h = h
by_tests true false false e new old front back h = ap (λ xs. e ∷ xs) h

filter_cond : (q : Event → Bool) (b : Bool) (e : Event) (xs : List Event) → filter q (cond b (e ∷ xs) xs) ≡ cond b (cond (q e) (e ∷ filter q xs) (filter q xs)) (filter q xs)
filter_cond q true e xs = refl
filter_cond q false e xs = refl

live_opens-push : (events : List Event) (x : Event) → live_opens (events ++ x ∷ []) ≡ handles_after (live_opens events) x
live_opens-push [] x = go (opens_file x) where
  go : (b : Bool) → cond (b && true) (x ∷ []) [] ≡ cond b (x ∷ []) []
  go true = refl
  go false = refl
live_opens-push (e ∷ es) x =
    ap (λ b. cond (opens_file e && not b) (e ∷ live_opens (es ++ x ∷ [])) (live_opens (es ++ x ∷ []))) (list_any-append (closes_file (handle_of e)) es (x ∷ []))
    ∙ by_tests (opens_file e) (list_any (closes_file (handle_of e)) es) (closes_file (handle_of e) x) e (live_opens (es ++ x ∷ [])) (live_opens es) (filter (λ o. not (closes_file (handle_of o) x)) (live_opens es)) (cond (opens_file x) (x ∷ []) []) (live_opens-push es x)
    ∙ ap (λ l. l ++ cond (opens_file x) (x ∷ []) []) (sym (filter_cond (λ o. not (closes_file (handle_of o) x)) (opens_file e && not (list_any (closes_file (handle_of e)) es)) e (live_opens es)))

-- with one more event of the session: those that it doesn't close, and the one that it opens
pub live_handles_of-own : (journal : List Event) (x : Event) (session : ℕ) → x.session ≡ session → live_handles_of (journal ++ x ∷ []) session ≡ handles_after (live_handles_of journal session) x
unfolding live_handles_of
live_handles_of-own journal x session own = ap live_opens (events_of-own journal x session own) ∙ live_opens-push (events_of journal session) x

pub live_handles_of-other : (journal : List Event) (x : Event) (session : ℕ) → x.session ≢ session → live_handles_of (journal ++ x ∷ []) session ≡ live_handles_of journal session
unfolding live_handles_of
live_handles_of-other journal x session other = ap live_opens (events_of-other journal x session other)

pub live_handles_of-new : (journal : List Event) (last session : ℕ) → AreNumbered journal last → last < session → live_handles_of journal session ≡ []
unfolding live_handles_of
live_handles_of-new journal last session all lt = ap live_opens (events_of-new journal last session all lt)
