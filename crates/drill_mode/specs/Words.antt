-- Believed: the command line of the mode `drill`.
use Rattle.std.specs.Prelude.{ℕ, ◌&&◌, nat_le, if◌then◌else◌, List, [], ◌∷◌, codes, Option, None, option_and_then}
use Rattle.std.specs.Bool.{then_some}
use Rattle.std.specs.Str.{bytes_eq}
use Rattle.text_line.specs.Reading.{decimal_of}

-- the number that a word spells, from 1 to 64, without a leading zero
abbrev pub drill_number : List ℕ → Option ℕ
drill_number word = option_and_then (λ n. then_some (nat_le 1 n && nat_le n 64) n) (decimal_of word)

-- the number that the command line `drill N` gives; any other gives none
abbrev pub drill_command : List (List ℕ) → Option ℕ
drill_command (mode ∷ number ∷ []) = if bytes_eq mode (codes "drill") then drill_number number else None
drill_command _ = None
