-- Inner: lists whose last item repeats.
use Rattle.std.specs.Prelude.{ℕ, List, [], ◌∷◌, Option, Some, None, unwrap_or}

-- the next item, if there is one
abbrev pub first_item : {X : Type 0} → List X → Option X
first_item [] = None
first_item (x ∷ _) = Some x

-- the next of these numbers; 0 of none
abbrev pub next_item : List ℕ → ℕ
next_item numbers = unwrap_or (first_item numbers) 0

-- the items after the next one: the last one stays
abbrev pub items_after : {X : Type 0} → List X → List X
items_after [] = []
items_after (x ∷ []) = x ∷ []
items_after (_ ∷ x ∷ xs) = x ∷ xs
