-- Believed: numbers that stand in bytes, lowest byte first.
use Rattle.std.specs.Prelude.{◌≡◌, ℕ, ◌≤◌, List, length, take, drop}
use Rattle.std.specs.Int.{Width, byte_len, from_le_bytes}

-- the number that stands at a place of these bytes, lowest byte first
unfoldable pub number_at : Width → ℕ → List ℕ → ℕ
number_at w place bytes = from_le_bytes w (take (byte_len w) (drop place bytes))

-- a number is read off the front of bytes, and the rest stands after it
pub record TakesNumber (w : Width) (bytes : List ℕ) (number : ℕ) (rest : List ℕ) : Type 0 where
  pub long : byte_len w ≤ length bytes
  pub number_is : number ≡ number_at w 0 bytes
  pub rest_is : rest ≡ drop (byte_len w) bytes
