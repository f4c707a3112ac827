-- Believed: word lists.
use Rattle.std.specs.Prelude.{◌≡◌, ℕ, ◌+◌, ◌/◌, ◌%◌, Bool, true, List, [], ◌∷◌, Some, length, map, nat_le, ◌&&◌}
use Rattle.std.specs.Prelude.{slice_get}
use Rattle.std.specs.Char.{is_ascii_uppercase}
use Rattle.std.specs.List.{list_all, range_with_len}

-- a word: 1 to 4 upper-case ASCII letters
unfoldable pub is_word : List ℕ → Bool
is_word word = nat_le 1 (length word) && nat_le (length word) 4 && list_all is_ascii_uppercase word

-- a list of 2,048 different words
pub record IsDictionary (words : List (List ℕ)) : Type 0 where
  pub count : length words ≡ 2048
  pub legal : (i : ℕ) (word : List ℕ) → slice_get words i ≡ Some word → is_word word ≡ true
  pub different : (i j : ℕ) (word : List ℕ) → slice_get words i ≡ Some word → slice_get words j ≡ Some word → i ≡ j

-- the plain list's word at a place: `Q` and three hexadecimal digits, written as `A` to `P`
abbrev pub plain_word : ℕ → List ℕ
plain_word place = 81 ∷ (65 + place / 256) ∷ (65 + place / 16 % 16) ∷ (65 + place % 16) ∷ []

-- the plain word list: 2,048 words that need no file
unfoldable pub plain_words : List (List ℕ)
plain_words = map plain_word (range_with_len 0 2048)
