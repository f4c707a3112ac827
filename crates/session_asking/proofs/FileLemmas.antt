-- What an event of a session makes of the names of its open files.
use Rattle.std.proofs.Common.{◌≡◌, ℕ, Bool, true, false, ◌&&◌, cond, eqb, not, List, [], ◌∷◌, ◌++◌, filter, Option, Some, None, refl, sym, ap, ◌∙◌, append-nil, eqb-true}
use Rattle.std.specs.Prelude.{◌==◌}
use Rattle.std.specs.List.{find}
use Rattle.std.proofs.lemmas.Bool.{and_parts}
use Rattle.service_model.specs.Cases.{name_of_opening}
use Rattle.policy_model.specs.declared.event.Ask.{Ask}
use Rattle.policy_model.specs.declared.event.Ask.TheVariants as asks
use Rattle.policy_model.specs.declared.event.Event.{Event}
use Rattle.policy_model.specs.Asks.{closes_file, is_close, is_permit, opens_file, label_named}
use Rattle.policy_model.specs.Cases.{is_open, handle_of}
use Rattle.policy_model.specs.Handles.{handle_opening, live_handles_of}
use Rattle.session_laws.specs.Handled.{handles_after}
use Rattle.session_laws.proofs.HandleSteps.{live_handles_of-own}
use Rattle.session_asking.specs.Known.{name_after}

abbrev at : ℕ → Event → Bool
at handle e = handle_of e == handle

-- what an event doesn't close
abbrev stays : Event → Event → Bool
stays e o = not (closes_file (handle_of o) e)

all_stay : (p : Event → Bool) (xs : List Event) → ((x : Event) → p x ≡ true) → filter p xs ≡ xs
all_stay p [] h = refl
all_stay p (x ∷ xs) h = ap (λ b. cond b (x ∷ filter p xs) (filter p xs)) (h x) ∙ ap (λ ys. x ∷ ys) (all_stay p xs h)

find_left : (live : List Event) (e : Event) (handle : ℕ) → closes_file handle e ≡ false → find (at handle) (filter (stays e) live) ≡ find (at handle) live
find_left [] e handle kept = refl
find_left (x ∷ xs) e handle kept = go (eqb (handle_of x) handle) refl (find_left xs e handle kept) where
  go : (b : Bool) → eqb (handle_of x) handle ≡ b → find (at handle) (filter (stays e) xs) ≡ find (at handle) xs → find (at handle) (cond (stays e x) (x ∷ filter (stays e) xs) (filter (stays e) xs)) ≡ cond b (Some x) (find (at handle) xs)
  go true is rest =
      let left : stays e x ≡ true = ap (λ n. not (closes_file n e)) (eqb-true (handle_of x) handle is) ∙ ap not kept in
      ap (λ b. find (at handle) (cond b (x ∷ filter (stays e) xs) (filter (stays e) xs))) left ∙ ap (λ b. cond b (Some x) (find (at handle) (filter (stays e) xs))) is
  go false is rest = skip (stays e x) where
    skip : (s : Bool) → find (at handle) (cond s (x ∷ filter (stays e) xs) (filter (stays e) xs)) ≡ find (at handle) xs
    skip true = ap (λ b. cond b (Some x) (find (at handle) (filter (stays e) xs))) is ∙ rest
    skip false = rest

find_closed : (live : List Event) (e : Event) (handle : ℕ) → closes_file handle e ≡ true → find (at handle) (filter (stays e) live) ≡ None
find_closed [] e handle closed = refl
find_closed (x ∷ xs) e handle closed = go (eqb (handle_of x) handle) refl (find_closed xs e handle closed) where
  go : (b : Bool) → eqb (handle_of x) handle ≡ b → find (at handle) (filter (stays e) xs) ≡ None → find (at handle) (cond (stays e x) (x ∷ filter (stays e) xs) (filter (stays e) xs)) ≡ None
  go true is rest =
      let gone : stays e x ≡ false = ap (λ n. not (closes_file n e)) (eqb-true (handle_of x) handle is) ∙ ap not closed in
      ap (λ b. find (at handle) (cond b (x ∷ filter (stays e) xs) (filter (stays e) xs))) gone ∙ rest
  go false is rest = skip (stays e x) where
    skip : (s : Bool) → find (at handle) (cond s (x ∷ filter (stays e) xs) (filter (stays e) xs)) ≡ None
    skip true = ap (λ b. cond b (Some x) (find (at handle) (filter (stays e) xs))) is ∙ rest
    skip false = rest

open_closes_none : (ask : Ask) (handle : ℕ) → is_open ask ≡ true → is_close handle ask ≡ false
open_closes_none (asks.OpenFile mode name) handle h = refl
open_closes_none (asks.CloseFile other) handle h = absurd cc
open_closes_none _ handle h = refl

or_else : Option Event → Option Event → Option Event
or_else None other = other
or_else (Some x) other = Some x

or_else-none : (o : Option Event) → or_else o None ≡ o
unfolding or_else
or_else-none None = refl
or_else-none (Some x) = refl

find_push : (p : Event → Bool) (xs : List Event) (e : Event) → find p (xs ++ e ∷ []) ≡ or_else (find p xs) (cond (p e) (Some e) None)
unfolding or_else
find_push p [] e = refl
find_push p (x ∷ xs) e = go (p x) (find_push p xs e) where
  go : (b : Bool) → find p (xs ++ e ∷ []) ≡ or_else (find p xs) (cond (p e) (Some e) None) → cond b (Some x) (find p (xs ++ e ∷ [])) ≡ or_else (cond b (Some x) (find p xs)) (cond (p e) (Some e) None)
  go true rest = refl
  go false rest = rest

-- of the live handles of a session
names_own : (live : List Event) (e : Event) (handle : ℕ) → (opens_file e ≡ true → find (at (handle_of e)) live ≡ None) → name_of_opening (find (at handle) (handles_after live e)) ≡ name_after e (name_of_opening (find (at handle) live)) handle
unfolding or_else
names_own live e handle free = go (opens_file e) refl where
  go : (b : Bool) → opens_file e ≡ b → name_of_opening (find (at handle) (filter (stays e) live ++ cond b (e ∷ []) [])) ≡ cond (b && eqb (handle_of e) handle) (label_named e.ask) (cond (closes_file handle e) None (name_of_opening (find (at handle) live)))
  go true is =
      let opened : is_open e.ask ≡ true = (and_parts (is_open e.ask) (is_permit e.decision) is).0 in
      let none : (n : ℕ) → closes_file n e ≡ false = λ n. ap (λ b. b && is_permit e.decision) (open_closes_none e.ask n opened) in
      let same : filter (stays e) live ≡ live = all_stay (stays e) live (λ x. ap not (none (handle_of x))) in
      let both : find (at handle) (filter (stays e) live ++ e ∷ []) ≡ or_else (find (at handle) live) (cond (eqb (handle_of e) handle) (Some e) None) = ap (λ xs. find (at handle) (xs ++ e ∷ [])) same ∙ find_push (at handle) live e in
      ap name_of_opening both ∙ new (eqb (handle_of e) handle) refl (none handle) where
        new : (b : Bool) → eqb (handle_of e) handle ≡ b → closes_file handle e ≡ false → name_of_opening (or_else (find (at handle) live) (cond b (Some e) None)) ≡ cond b (label_named e.ask) (cond (closes_file handle e) None (name_of_opening (find (at handle) live)))
        new true at_it none =
            let nobody : find (at handle) live ≡ None = ap (λ n. find (at n) live) (sym (eqb-true (handle_of e) handle at_it)) ∙ free is in
            ap (λ o. name_of_opening (or_else o (Some e))) nobody
        new false at_it none = ap name_of_opening (or_else-none (find (at handle) live)) ∙ sym (ap (λ b. cond b None (name_of_opening (find (at handle) live))) none)
  go false is = ap (λ xs. name_of_opening (find (at handle) xs)) (append-nil (filter (stays e) live)) ∙ left (closes_file handle e) refl where
    left : (b : Bool) → closes_file handle e ≡ b → name_of_opening (find (at handle) (filter (stays e) live)) ≡ cond b None (name_of_opening (find (at handle) live))
    left true closed = ap name_of_opening (find_closed live e handle closed)
    left false kept = ap name_of_opening (find_left live e handle kept)

-- the names of a session's open files after one of its events
pub names_after : (journal : List Event) (e : Event) (session handle : ℕ) → e.session ≡ session → (opens_file e ≡ true → handle_opening journal session (handle_of e) ≡ None) → name_of_opening (handle_opening (journal ++ e ∷ []) session handle) ≡ name_after e (name_of_opening (handle_opening journal session handle)) handle
names_after journal e session handle own free =
    ap (λ xs. name_of_opening (find (at handle) xs)) (live_handles_of-own journal e session own) ∙ names_own (live_handles_of journal session) e handle free
