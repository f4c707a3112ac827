-- Inner: buffers that are taken beforehand.
use Rattle.std.specs.Prelude.{ℕ, ◌+◌, ◌-◌, ◌==◌, ◌&&◌, ◌||◌, Bool, nat_le, nat_lt}
use Rattle.outside_memory.specs.declared.room.Pieces.{Pieces}

-- where bytes are kept: whether in buffers that were taken beforehand, and which of these are left
pub record Buffered : Type 0 where
  pub fixed : Bool
  pub pieces : Pieces

-- the buffers after so many of them were used
abbrev pub without : ℕ → Pieces → Pieces
without n p = record { count = p.count - n; size = p.size }

-- what is left where bytes are kept, after so many buffers were used
abbrev pub used : ℕ → Buffered → Buffered
used n b = record { fixed = b.fixed; pieces = without n b.pieces }

-- whether there is a buffer for so many bytes
abbrev pub has_piece : Pieces → ℕ → Bool
has_piece p bytes = nat_lt 0 p.count && nat_le bytes p.size

-- whether there are buffers for a file's name and its bytes, which are so many
abbrev pub fits_file : Pieces → ℕ → ℕ → Bool
fits_file p name bytes = nat_lt 1 p.count && (nat_le name p.size && nat_le bytes p.size)

-- whether there are buffers for the name of a file with so many bytes and for what stands in it once
-- so many were written from this place on
abbrev pub fits_written : Pieces → ℕ → ℕ → ℕ → ℕ → Bool
fits_written p name old offset bytes =
    fits_file p name old && (bytes == 0 || nat_le (offset + bytes) p.size)
