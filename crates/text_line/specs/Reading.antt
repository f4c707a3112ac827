-- Believed: the numbers that texts spell.
use Rattle.std.specs.Prelude.{ℕ, ◌^◌, ◌&&◌, List, Option, nat_lt}
use Rattle.std.specs.Bool.{then_some}
use Rattle.std.specs.Fmt.{decimal}
use Rattle.std.specs.Str.{bytes_eq}
use Rattle.std.specs.Str.Parse.{digits_value}

-- the number of 64 bits that a text spells in decimal digits without a leading zero
unfoldable pub decimal_of : List ℕ → Option ℕ
decimal_of text =
    then_some (bytes_eq text (decimal (digits_value 10 text)) && nat_lt (digits_value 10 text) (2 ^ 64))
    (digits_value 10 text)
