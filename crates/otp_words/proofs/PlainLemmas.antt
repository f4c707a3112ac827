-- The plain word list.
use Rattle.std.proofs.Common.{◌≡◌, ℕ, ◌+◌, ◌/◌, ◌%◌, ◌<◌, true, false, List, [], map, refl, sym, ap, subst, ◌∙◌, arith, Option, Some, None}
use Rattle.std.specs.Prelude.{slice_get, is_some}
use Rattle.std.specs.List.{range_with_len, list_all}
use Rattle.std.specs.Char.{is_ascii_uppercase}
use Rattle.std.proofs.Common.{get_or}
use Rattle.std.specs.Str.{str_to_ascii_uppercase}
use Rattle.std.proofs.lemmas.Bool.Decides.{nat_tests}
use Rattle.std.proofs.lemmas.Option.{slice_get_within, get_or_from_slice_get}
use Rattle.std.proofs.lemmas.List.FromFn.{length-map-range_with_len, get_or-map-range_with_len}
use Rattle.otp_words.specs.Digits.{number_of}
use Rattle.otp_words.specs.Dictionaries.{is_word, plain_word}
use Rattle.otp_words.specs.Inner.{IsPlaced, AreWords}
use Rattle.otp_words.proofs.DictionaryLemmas.{same_word}
use Rattle.otp_words.proofs.WordText.{upper_letters}

-- the letter of a digit
digit_letter : (d : ℕ) → d < 16 → is_ascii_uppercase (65 + d) ≡ true
digit_letter d small = grind (arith, nat_tests)

-- a plain word is letters
plain_letters : (i : ℕ) → i < 2048 → list_all is_ascii_uppercase (plain_word i) ≡ true
plain_letters i below =
    rw (digit_letter (i / 256) (omega arith), digit_letter (i / 16 % 16) (omega arith), digit_letter (i % 16) (omega arith)) refl

-- a plain word is in upper case
pub upper-plain_word : (i : ℕ) → i < 2048 → str_to_ascii_uppercase (plain_word i) ≡ plain_word i
upper-plain_word i below = upper_letters (plain_word i) (plain_letters i below)

-- a plain word is a word
pub is_word-plain_word : (i : ℕ) → i < 2048 → is_word (plain_word i) ≡ true
unfolding is_word
is_word-plain_word i below = rw (digit_letter (i / 256) (omega arith), digit_letter (i / 16 % 16) (omega arith), digit_letter (i % 16) (omega arith)) refl

-- plain words of different places are different
plain_word-same : (i j : ℕ) → i < 2048 → j < 2048 → plain_word i ≡ plain_word j → i ≡ j
plain_word-same i j below_i below_j e =
    let first : 65 + i / 256 ≡ 65 + j / 256 = ap (λ (w : List ℕ). get_or w 1 0) e in
    let second : 65 + i / 16 % 16 ≡ 65 + j / 16 % 16 = ap (λ (w : List ℕ). get_or w 2 0) e in
    let third : 65 + i % 16 ≡ 65 + j % 16 = ap (λ (w : List ℕ). get_or w 3 0) e in
    omega arith

-- a plain word among the first
plain_at : (n i : ℕ) (w : List ℕ) → slice_get (map plain_word (range_with_len 0 n)) i ≡ Some w → (i < n) × (w ≡ plain_word i)
plain_at n i w there =
    let within : i < n = omega (arith, slice_get_within (map plain_word (range_with_len 0 n)) i w there, length-map-range_with_len plain_word 0 n) in
    (within, sym (get_or_from_slice_get (map plain_word (range_with_len 0 n)) i w [] there) ∙ get_or-map-range_with_len plain_word 0 n i i [] within (omega arith))

-- what looks up no place
no_place_case : (place : ℕ → Option ℕ) (number : ℕ) (r : Option ℕ) → r ≡ place number → ((i : ℕ) → place number ≡ Some i → ⊥) → is_some r ≡ false
no_place_case place number None e h = refl
no_place_case place number (Some i) e h = absurd (h i (sym e))

-- the next plain word is new
pub plain_new : (words : List (List ℕ)) (place : ℕ → Option ℕ) (n : ℕ) → n < 2048 → words ≡ map plain_word (range_with_len 0 n) → IsPlaced words place → AreWords words → is_some (place (number_of 8 (str_to_ascii_uppercase (plain_word n)))) ≡ false
plain_new words place n below plain placed are =
    no_place_case place (number_of 8 (str_to_ascii_uppercase (plain_word n))) (place (number_of 8 (str_to_ascii_uppercase (plain_word n)))) refl (λ i there.
    let found = placed.found (number_of 8 (str_to_ascii_uppercase (plain_word n))) i there in
    let same : found.0 ≡ plain_word n = same_word found.0 (plain_word n) (are.legal i found.0 found.1) (is_word-plain_word n below) (found.2 ∙ ap (number_of 8) (upper-plain_word n below)) in
    let at = plain_at n i found.0 (subst (λ (x : List (List ℕ)). slice_get x i ≡ Some found.0) plain found.1) in
    let equal : i ≡ n = plain_word-same i n (omega (arith, at.0)) below (sym at.1 ∙ same) in
    omega (arith, at.0, equal))
