-- Believed: the pass phrase in an input.
use Rattle.std.specs.Prelude.{ℕ, Bool, nat_le, ◌&&◌, List, length, Option}
use Rattle.std.specs.Bool.{then_some}
use Rattle.std.specs.List.{list_all}
use Rattle.request_catalogue.specs.Texts.{is_printable}
use Rattle.otp_mode.specs.Lines.{first_line}

-- a pass phrase: 10 to 63 printable bytes (RFC 2289, section 6.0; 63 is this program's upper bound)
unfoldable pub is_phrase : List ℕ → Bool
is_phrase line = nat_le 10 (length line) && nat_le (length line) 63 && list_all is_printable line

-- the pass phrase of an input: its first line, if that is one
unfoldable pub phrase_of : List ℕ → Option (List ℕ)
phrase_of input = then_some (is_phrase (first_line input)) (first_line input)
