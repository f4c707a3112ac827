-- Believed: the text of a challenge (RFC 2289).
use Rattle.std.specs.Prelude.{◌≡◌, ℕ, ◌+◌, ◌-◌, ◌*◌, Bool, true, List, [], ◌∷◌, ◌++◌, length, map, fold, codes, nat_le}
use Rattle.std.specs.Prelude.{◌==◌, ◌&&◌, ◌||◌}
use Rattle.std.specs.Char.{is_ascii_digit, to_ascii_lowercase}
use Rattle.std.specs.Fmt.{decimal}
use Rattle.std.specs.List.{list_all}
use Rattle.otp_hash.specs.Seeds.{is_seed_text}
use Rattle.otp_hash.specs.declared.chain.Algo.{Algo}
use Rattle.otp_hash.specs.Names.{algo_name}
use Rattle.otp_words.specs.Blanks.{IsGap}

-- the first word of a challenge: `otp-` and the algorithm's name
abbrev pub challenge_word : Algo → List ℕ
challenge_word algo = codes "otp-" ++ algo_name algo

-- the challenge of an algorithm, a number and a seed: `otp-ALGORITHM NUMBER SEED` and a newline
unfoldable pub challenge_of : Algo → ℕ → List ℕ → List ℕ
challenge_of algo n seed = challenge_word algo ++ 32 ∷ decimal n ++ 32 ∷ seed ++ 10 ∷ []

-- one to four decimal digits
abbrev pub is_number_text : List ℕ → Bool
is_number_text text = nat_le 1 (length text) && nat_le (length text) 4 && list_all is_ascii_digit text

-- the number that decimal digits are, leading zeros allowed
abbrev pub decimal_value : List ℕ → ℕ
decimal_value digits = fold (λ number digit. number * 10 + (digit - 48)) 0 digits

-- the byte that ends a challenge: a space or a newline
abbrev pub is_close : ℕ → Bool
is_close c = c == 32 || c == 10

-- one to four decimal digits, and the number that they are
pub record IsNumber (digits : List ℕ) (n : ℕ) : Type 0 where
  pub legal : is_number_text digits ≡ true
  pub value : n ≡ decimal_value digits

-- a text begins with a challenge: algorithm's word, number, seed in any letter case, blanks between, and a space or
-- newline after, `used` bytes in all
pub record BeginsWithChallenge (text : List ℕ) (algo : Algo) (n : ℕ) (seed : List ℕ) (used : ℕ) : Type 0 where
  pub gap : List ℕ
  pub digits : List ℕ
  pub second_gap : List ℕ
  pub name : List ℕ
  pub close : ℕ
  pub unread : List ℕ
  pub spelled : text ≡ challenge_word algo ++ (gap ++ (digits ++ (second_gap ++ (name ++ close ∷ unread))))
  pub parted : IsGap gap
  pub number : IsNumber digits n
  pub parted_again : IsGap second_gap
  pub legal : is_seed_text name ≡ true
  pub in_lower_case : seed ≡ map to_ascii_lowercase name
  pub closed : is_close close ≡ true
  pub all_used : used + length unread ≡ length text
