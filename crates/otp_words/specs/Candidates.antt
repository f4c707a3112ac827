-- Believed: the passwords that a text spells.
use Rattle.std.specs.Prelude.{◌≡◌, ℕ, ◌^◌, ◌<◌, List, Option, Some, IfSome}
use Rattle.otp_words.specs.Hex.{hex_reading}
use Rattle.otp_words.specs.Words.{IsSixWords}

-- the two readings of a text: the password that it spells in six words, if it does, and the one in hexadecimal
pub record AreCandidatesOf (dictionary : List (List ℕ)) (text : List ℕ) (words hex : Option ℕ) : Type 0 where
  pub found : IfSome words (IsSixWords dictionary text)
  pub only : (password : ℕ) → password < 2 ^ 64 → IsSixWords dictionary text password → words ≡ Some password
  pub hexadecimal : hex ≡ hex_reading text
