-- Believed: passwords in six words (RFC 2289).
use Rattle.std.specs.Prelude.{◌≡◌, ℕ, ◌+◌, ◌*◌, ◌%◌, ◌≤◌, true, List, [], ◌∷◌, ◌++◌, length, map, sum, Some, slice_get}
use Rattle.std.specs.Prelude.{slice_index_or}
use Rattle.std.specs.List.{list_all}
use Rattle.std.specs.Str.{str_to_ascii_uppercase}
use Rattle.otp_words.specs.Digits.{digits_of, number_of}
use Rattle.otp_words.specs.Blanks.{is_blank}

-- the two low bits of the sum of a password's 32 pairs of bits
unfoldable pub check_bits : ℕ → ℕ
check_bits password = sum (digits_of 2 32 password) % 4

-- the 66 bits of a password: its 64 bits, then its two check bits
abbrev pub checked : ℕ → ℕ
checked password = 4 * password + check_bits password

-- these words, with a space between
abbrev pub spaced : List (List ℕ) → List ℕ
spaced [] = []
spaced (word ∷ []) = word
spaced (word ∷ next ∷ words) = word ++ 32 ∷ spaced (next ∷ words)

-- the words of a list at these places
abbrev pub words_at : List (List ℕ) → List ℕ → List (List ℕ)
words_at words places = map (λ i. slice_index_or words i []) places

-- a password as six words of the list, with a space between
unfoldable pub words_text : List (List ℕ) → ℕ → List ℕ
words_text words password = spaced (words_at words (digits_of 11 6 (checked password)))

-- a text is the list's words at these places, in any letter case, with spaces or tabs between
abbrev pub IsWords : List (List ℕ) → List ℕ → List ℕ → Type 0
IsWords words [] text = ⊥
IsWords words (i ∷ []) text = slice_get words i ≡ Some (str_to_ascii_uppercase text)
IsWords words (i ∷ j ∷ places) text =
    (front : List ℕ) × (gap : List ℕ) × (rest : List ℕ) × (text ≡ front ++ (gap ++ rest))
    × (slice_get words i ≡ Some (str_to_ascii_uppercase front))
    × (1 ≤ length gap) × (list_all is_blank gap ≡ true) × IsWords words (j ∷ places) rest

-- a text spells this password in six words of the list, with right check bits
abbrev pub IsSixWords : List (List ℕ) → List ℕ → ℕ → Type 0
IsSixWords words text password =
    (places : List ℕ) × (length places ≡ 6) × IsWords words places text × (number_of 11 places ≡ checked password)
