-- Believed: the first line of an input.
use Rattle.std.specs.Prelude.{ℕ, ◌==◌, List, nat_lt, take, Option, Some, None}
use Rattle.std.specs.Bool.{then_some}
use Rattle.std.specs.List.{position, position_or_len}
use Rattle.std.specs.Str.Lines.{strip_carriage_return}

-- a line up to a newline's place, without a carriage return at its end; without a newline, the whole input
abbrev pub line_to : Option ℕ → List ℕ → List ℕ
line_to None input = input
line_to (Some place) input = strip_carriage_return (take place input)

-- the first line of an input
abbrev pub first_line : List ℕ → List ℕ
first_line input = line_to (position (λ c. c == 10) input) input

-- the first line of an input, if it ends within the first 4,096 bytes
unfoldable pub line_of : List ℕ → Option (List ℕ)
line_of input = then_some (nat_lt (position_or_len (λ c. c == 10) input) 4096) (first_line input)
