-- Inner: what the clauses of functions inside the crate cite; no promise to a caller stands on it.
use Rattle.std.specs.Prelude.{◌≡◌, ℕ, ◌+◌, ◌-◌, ◌/◌, ◌%◌, Bool, true, false, List, [], ◌∷◌, ◌++◌, Option, Some}
use Rattle.std.specs.Prelude.{slice_get, slice_index, nat_lt, ◌==◌, if◌then◌else◌}
use Rattle.std.specs.Char.{is_ascii_digit, is_ascii_alphanumeric}
use Rattle.std.specs.List.{list_all, prefix_len}
use Rattle.otp_words.specs.Blanks.{is_blank}
use Rattle.otp_words.specs.Challenges.{is_close}
use Rattle.otp_words.specs.Dictionaries.{is_word}
use Rattle.otp_words.specs.Digits.{number_of}

-- how many of a number's four digits are zeros before its first
abbrev pub leading_zeros : ℕ → ℕ
leading_zeros n = if nat_lt n 10 then 3 else if nat_lt n 100 then 2 else if nat_lt n 1000 then 1 else 0

-- the four decimal digits of a number below 10,000
abbrev pub four_digits : ℕ → List ℕ
four_digits n = (48 + n / 1000) ∷ (48 + n / 100 % 10) ∷ (48 + n / 10 % 10) ∷ (48 + n % 10) ∷ []

-- the longest front of a text that passes a test, and what follows it
pub record IsLongestFront (test : ℕ → Bool) (text front rest : List ℕ) : Type 0 where
  pub joined : text ≡ front ++ rest
  pub passes : list_all test front ≡ true
  pub stops : prefix_len test rest ≡ 0

-- a text in blanks, digits, blanks, letters and digits, and the rest
pub record ArePieces (text gap digits second_gap name rest : List ℕ) : Type 0 where
  pub behind_gap : List ℕ
  pub behind_digits : List ℕ
  pub behind_second : List ℕ
  pub gap_is : IsLongestFront is_blank text gap behind_gap
  pub digits_is : IsLongestFront is_ascii_digit behind_gap digits behind_digits
  pub second_is : IsLongestFront is_blank behind_digits second_gap behind_second
  pub name_is : IsLongestFront is_ascii_alphanumeric behind_second name rest

-- a text begins with a space or a newline
abbrev pub is_closed : List ℕ → Bool
is_closed [] = false
is_closed (c ∷ cs) = is_close c

-- the byte at a place of 16 digits in such groups: a space after each four digits
abbrev pub grouped : List ℕ → ℕ → ℕ
grouped digits place = if place % 5 == 4 then 32 else slice_index digits (place - place / 5)

-- a look-up by words as numbers gives their places
pub record IsPlaced (words : List (List ℕ)) (place : ℕ → Option ℕ) : Type 0 where
  pub found : (number i : ℕ) → place number ≡ Some i → (word : List ℕ) × (slice_get words i ≡ Some word)
      × (number_of 8 word ≡ number)
  pub only : (i : ℕ) (word : List ℕ) → slice_get words i ≡ Some word → place (number_of 8 word) ≡ Some i

-- words of letters in upper case
pub record AreWords (words : List (List ℕ)) : Type 0 where
  pub legal : (i : ℕ) (word : List ℕ) → slice_get words i ≡ Some word → is_word word ≡ true
