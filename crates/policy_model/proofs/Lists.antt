-- Facts on filters of a list, its last element and tests of some element.
use Rattle.std.proofs.Common.{◌≡◌, ℕ, zero, suc, slice_get, arith, ◌+◌, ◌<◌, Bool, true, false, ◌&&◌, ◌||◌, cond, List, [], ◌∷◌, ◌++◌, length, get_or, take, Option, None, Some, refl, sym, ap, ◌∙◌, filter}
use Rattle.std.proofs.lemmas.List.{append-nil, take_more}
use Rattle.std.specs.List.{last_or, list_any}
use Rattle.std.proofs.lemmas.List.Elements.{filter-append}

-- the last element of a list to which one was appended
pub last_or-push : {X : Type 0} (o : Option X) (xs : List X) (x : X) → last_or o (xs ++ x ∷ []) ≡ Some x
last_or-push o [] x = refl
last_or-push o (y ∷ ys) x = last_or-push (Some y) ys x

-- a test of some element that passes a filter is a test of some element by both
pub list_any-filter : {X : Type 0} (p q : X → Bool) (xs : List X) → list_any p (filter q xs) ≡ list_any (λ x. q x && p x) xs
list_any-filter p q [] = refl
list_any-filter p q (x ∷ xs) =
    elim (q x) as (λ b. list_any p (cond b (x ∷ filter q xs) (filter q xs)) ≡ (b && p x || list_any (λ y. q y && p y) xs)) [
      | true ↦ ap (λ r. p x || r) (list_any-filter p q xs)
      | false ↦ list_any-filter p q xs
    ]

-- the last element that passes, of one more element
pub last_or-filter_push : {X : Type 0} (p : X → Bool) (xs : List X) (x : X) → last_or None (filter p (xs ++ x ∷ [])) ≡ cond (p x) (Some x) (last_or None (filter p xs))
last_or-filter_push p xs x = ap (last_or None) (filter-append p xs (x ∷ [])) ∙ go (p x) where
  go : (b : Bool) → last_or None (filter p xs ++ cond b (x ∷ []) []) ≡ cond b (Some x) (last_or None (filter p xs))
  go true = last_or-push None (filter p xs) x
  go false = ap (last_or None) (append-nil (filter p xs))

-- a loop that looks for the last element that passes goes one place on
pub last_turn : {X : Type 0} (p : X → Bool) (xs : List X) (i : ℕ) (last : Option X) (x d : X) → i < length xs → x ≡ get_or xs i d → last ≡ last_or None (filter p (take i xs)) → cond (p x) (Some x) last ≡ last_or None (filter p (take (i + 1) xs))
last_turn p xs i last x d lt here so_far =
    ap (λ l. cond (p x) (Some x) l) so_far
    ∙ sym (last_or-filter_push p (take i xs) x)
    ∙ ap (λ y. last_or None (filter p (take i xs ++ y ∷ []))) here
    ∙ ap (λ ys. last_or None (filter p ys)) (sym (take_more xs i d lt))

-- an element more on the elements that pass
pub filter-push : {X : Type 0} (p : X → Bool) (xs : List X) (x : X) → filter p (xs ++ x ∷ []) ≡ filter p xs ++ cond (p x) (x ∷ []) []
filter-push p xs x = filter-append p xs (x ∷ [])

-- a loop that computes something by one more element each goes one place on
pub turn : {X A : Type 0} (f : List X → A) (g : List X → X → A → A) → ((xs : List X) (x : X) → f (xs ++ x ∷ []) ≡ g xs x (f xs)) → (xs : List X) (i : ℕ) (x d : X) (a : A) → i < length xs → x ≡ get_or xs i d → a ≡ f (take i xs) → g (take i xs) x a ≡ f (take (i + 1) xs)
turn f g push xs i x d a lt here so_far =
    ap (g (take i xs) x) so_far
    ∙ sym (push (take i xs) x)
    ∙ ap (λ y. f (take i xs ++ y ∷ [])) here
    ∙ ap f (sym (take_more xs i d lt))

-- what stands at a place of a list
pub stands_at : {X : Type 0} (xs : List X) (i : ℕ) (d : X) → i < length xs → slice_get xs i ≡ Some (get_or xs i d)
stands_at [] i d lt = absurd (omega (arith, lt))
stands_at (x ∷ xs) zero d lt = refl
stands_at (x ∷ xs) (suc i) d lt = stands_at xs i d (omega (arith, lt))
