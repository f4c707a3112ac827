-- Believed: a durable log that has no records yet.
use Rattle.std.specs.Prelude.{◌≡◌, ℕ, List, [], ◌∷◌, ◌++◌, Option, Some, codes}

-- the file is there and holds a durable log without records: `OTJ1` and a closed gate
abbrev pub IsFresh : Option (List ℕ) → Type 0
IsFresh file = file ≡ Some (codes "OTJ1" ++ 0 ∷ [])
