-- Inner: what a line is.
use Rattle.std.specs.Prelude.{ℕ, ◌+◌, ◌==◌, ◌&&◌, Bool, not, nat_le, List, length}
use Rattle.std.specs.List.{prefix_len}

-- one line of at most 256 bytes: they end with a newline, and have no other
abbrev pub is_line : List ℕ → Bool
is_line bytes = nat_le (length bytes) 256 && prefix_len (λ c. not (c == 10)) bytes + 1 == length bytes
