-- Inner: the least number that stands twice, found from the front.
use Rattle.std.specs.Prelude.{ℕ, ◌==◌, Bool, List, [], ◌∷◌, Option, Some, None, min, if◌then◌else◌}
use Rattle.std.specs.Bool.{then_some}
use Rattle.std.specs.List.{list_any}

-- the least of a number, where it stands again, and another, where there is one
abbrev pub least_of : ℕ → Bool → Option ℕ → Option ℕ
least_of number again None = then_some again number
least_of number again (Some other) = Some (if again then min number other else other)

-- the least number that stands twice
abbrev pub least_twice : List ℕ → Option ℕ
least_twice [] = None
least_twice (number ∷ numbers) = least_of number (list_any (λ n. n == number) numbers) (least_twice numbers)
