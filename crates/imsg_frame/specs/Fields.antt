-- Believed: how a header gives a frame's length and flags, in each width.
use Rattle.std.specs.Prelude.{ℕ, ◌+◌, ◌*◌, ◌^◌, ◌%◌, List, ◌++◌, take, drop}
use Rattle.std.specs.Int.{w16, w32, to_le_bytes, from_le_bytes}
use Rattle.request_catalogue.specs.declared.width.Width.{Width}
use Rattle.request_catalogue.specs.declared.width.Width.TheVariants as widths

-- the length in a header is below this number
abbrev pub len_limit : Width → ℕ
len_limit widths.Narrow = 2 ^ 16
len_limit widths.Wide = 2 ^ 31

-- flags are below this number; a wide frame has one flag, the descriptor's mark
abbrev pub flags_limit : Width → ℕ
flags_limit widths.Narrow = 2 ^ 16
flags_limit widths.Wide = 2

-- bytes 4 to 8 of a header: narrow, len and flags in 16 bits each; wide, len in 31 bits and the descriptor's mark above
unfoldable pub len_bytes : Width → ℕ → ℕ → List ℕ
len_bytes widths.Narrow len flags = to_le_bytes w16 len ++ to_le_bytes w16 flags
len_bytes widths.Wide len flags = to_le_bytes w32 (len + 2 ^ 31 * flags)

-- the length that the header in front of these bytes gives
unfoldable pub length_field : Width → List ℕ → ℕ
length_field widths.Narrow bytes = from_le_bytes w16 (take 2 (drop 4 bytes))
length_field widths.Wide bytes = from_le_bytes w32 (take 4 (drop 4 bytes)) % 2 ^ 31
