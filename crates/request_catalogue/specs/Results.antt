-- Believed: a value that is read, or the first fault.
use Rattle.std.specs.Prelude.{Option, Some, None, Result, Ok, Err}

-- a value if it is there, otherwise the fault
abbrev pub demand : {A F : Type 0} → F → Option A → Result A F
demand fault (Some a) = Ok a
demand fault None = Err fault

-- what follows from a value that was read; a fault before it stays
infixl 10 ◌>>=◌
abbrev pub ◌>>=◌ : {A B F : Type 0} → Result A F → (A → Result B F) → Result B F
Ok a >>= next = next a
Err fault >>= next = Err fault
