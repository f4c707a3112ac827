-- Believed: numbers and their digits, where a digit has a number of bits.
use Rattle.std.specs.Prelude.{ℕ, zero, suc, ◌+◌, ◌*◌, ◌/◌, ◌%◌, ◌^◌, List, [], ◌∷◌, fold}

-- the last digits of a number, each of so many bits, the most significant first
abbrev pub digits_of : ℕ → ℕ → ℕ → List ℕ
digits_of width zero number = []
digits_of width (suc count) number = number / 2 ^ (width * count) % 2 ^ width ∷ digits_of width count number

-- the number that these digits of so many bits make, the most significant first
abbrev pub number_of : ℕ → List ℕ → ℕ
number_of width digits = fold (λ number digit. number * 2 ^ width + digit) 0 digits
