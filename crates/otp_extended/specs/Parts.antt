-- Believed: the parts of a text between its colons.
use Rattle.std.specs.Prelude.{ℕ, ◌==◌, List, [], ◌∷◌, if◌then◌else◌}

-- the parts with one byte more, at the front of the first
abbrev pub put_before : ℕ → List (List ℕ) → List (List ℕ)
put_before c [] = (c ∷ []) ∷ []
put_before c (part ∷ parts) = (c ∷ part) ∷ parts

-- the parts of a text between its colons, one more than it has colons
abbrev pub parts_of : List ℕ → List (List ℕ)
parts_of [] = [] ∷ []
parts_of (c ∷ cs) = if c == 58 then [] ∷ parts_of cs else put_before c (parts_of cs)
