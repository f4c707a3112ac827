-- Believed: the rules for the bytes of a seed.
use Rattle.std.specs.Prelude.{ℕ, Bool, List, length, nat_le, ◌&&◌, ◌||◌}
use Rattle.std.specs.Char.{is_ascii_alphanumeric, is_ascii_lowercase, is_ascii_digit}
use Rattle.std.specs.List.{list_all}

-- a seed as it may be typed: 1 to 16 ASCII letters and digits
unfoldable pub is_seed_text : List ℕ → Bool
is_seed_text bytes = nat_le 1 (length bytes) && nat_le (length bytes) 16 && list_all is_ascii_alphanumeric bytes

-- a lower-case letter or a digit
abbrev pub is_seed_byte : ℕ → Bool
is_seed_byte c = is_ascii_lowercase c || is_ascii_digit c

-- a seed: 1 to 16 lower-case ASCII letters and digits
unfoldable pub is_seed : List ℕ → Bool
is_seed bytes = nat_le 1 (length bytes) && nat_le (length bytes) 16 && list_all is_seed_byte bytes
