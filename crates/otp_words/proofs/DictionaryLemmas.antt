-- Words, and their places in a dictionary.
use Rattle.std.proofs.Common.{◌≡◌, ℕ, zero, suc, ◌+◌, ◌*◌, ◌^◌, ◌<◌, ◌≤◌, Bool, true, false, List, [], ◌∷◌, length, refl, sym, ap, ◌∙◌, arith, ◌&&◌, Option, Some, None}
use Rattle.std.specs.Prelude.{nat_le, nat_lt, IfSome, slice_get, fold, ◌-◌, ◌++◌, replicate}
use Rattle.std.specs.Char.{is_ascii_alphabetic, is_ascii_uppercase, to_ascii_uppercase}
use Rattle.std.specs.List.{list_all}
use Rattle.std.proofs.lemmas.Bool.{and_parts, and_from, false≢true}
use Rattle.std.proofs.lemmas.Bool.Decides.{nat_tests}
use Rattle.std.proofs.lemmas.List.{length-map, length-replicate}
use Rattle.std.proofs.Common.{length-append}
use Rattle.std.specs.Str.{str_to_ascii_uppercase}
use Rattle.otp_words.specs.Digits.{number_of}
use Rattle.otp_words.specs.Dictionaries.{is_word, IsDictionary}
use Rattle.otp_words.specs.Inner.{IsPlaced}

-- a byte
abbrev is_byte : ℕ → Bool
is_byte c = nat_lt c 256

-- a letter in upper case
is_ascii_uppercase-upper : (c : ℕ) → is_ascii_uppercase (to_ascii_uppercase c) ≡ is_ascii_alphabetic c
is_ascii_uppercase-upper c = grind (arith, nat_tests)

-- letters in upper case
list_all-upper : (cs : List ℕ) → list_all is_ascii_uppercase (str_to_ascii_uppercase cs) ≡ list_all is_ascii_alphabetic cs
list_all-upper [] = refl
list_all-upper (c ∷ cs) = rw (is_ascii_uppercase-upper c, list_all-upper cs) refl

-- a word in any letter case
pub is_word-upper : (bytes : List ℕ) → is_word (str_to_ascii_uppercase bytes) ≡ (nat_le 1 (length bytes) && nat_le (length bytes) 4 && list_all is_ascii_alphabetic bytes)
unfolding is_word
is_word-upper bytes = rw (list_all-upper bytes) (simp length-map)

-- a letter is a number from 65 to 90
letter_range : (c : ℕ) → is_ascii_uppercase c ≡ true → (65 ≤ c) × (c ≤ 90)
letter_range c e = (grind (arith, nat_tests), grind (arith, nat_tests))

-- a front letter and the letters after it
letters_parts : (c : ℕ) (cs : List ℕ) → list_all is_ascii_uppercase (c ∷ cs) ≡ true → (65 ≤ c) × (c ≤ 90) × (list_all is_ascii_uppercase cs ≡ true)
letters_parts c cs e =
    let parts = and_parts (is_ascii_uppercase c) (list_all is_ascii_uppercase cs) e in
    let range = letter_range c parts.0 in
    (range.0, range.1, parts.1)

-- what a word is
pub is_word-parts : (word : List ℕ) → is_word word ≡ true → (1 ≤ length word) × (length word ≤ 4) × (list_all is_ascii_uppercase word ≡ true)
unfolding is_word
is_word-parts word e =
    let parts = and_parts (nat_le 1 (length word) && nat_le (length word) 4) (list_all is_ascii_uppercase word) e in
    let bounds = and_parts (nat_le 1 (length word)) (nat_le (length word) 4) parts.0 in
    (grind (arith, nat_tests), grind (arith, nat_tests), parts.1)

-- letters are bytes
list_all-bytes : (v : List ℕ) → list_all is_ascii_uppercase v ≡ true → list_all is_byte v ≡ true
list_all-bytes [] e = refl
list_all-bytes (c ∷ cs) e =
    let parts = letters_parts c cs e in
    let small : c < 256 = omega (arith, parts.1) in
    and_from (is_byte c) (list_all is_byte cs) (grind (arith, nat_tests)) (list_all-bytes cs parts.2)

-- zeros are bytes
list_all-padded : (n : ℕ) (v : List ℕ) → list_all is_byte v ≡ true → list_all is_byte (replicate n 0 ++ v) ≡ true
list_all-padded zero v e = e
list_all-padded (suc n) v e = list_all-padded n v e

-- zeros in front don't change a number
number_of-padded : (n : ℕ) (v : List ℕ) → number_of 8 (replicate n 0 ++ v) ≡ number_of 8 v
number_of-padded zero v = refl
number_of-padded (suc n) v = number_of-padded n v

-- numbers of as many bytes are equal where the bytes are
same_digits : (a b : ℕ) (v w : List ℕ) → length v ≡ length w → list_all is_byte v ≡ true → list_all is_byte w ≡ true → fold (λ number digit. number * 2 ^ 8 + digit) a v ≡ fold (λ number digit. number * 2 ^ 8 + digit) b w → (a ≡ b) × (v ≡ w)
same_digits a b [] [] long bytes_v bytes_w e = (e, refl)
same_digits a b [] (y ∷ w) long bytes_v bytes_w e = absurd (omega arith)
same_digits a b (x ∷ v) [] long bytes_v bytes_w e = absurd (omega arith)
same_digits a b (x ∷ v) (y ∷ w) long bytes_v bytes_w e =
    let parts_v = and_parts (is_byte x) (list_all is_byte v) bytes_v in
    let parts_w = and_parts (is_byte y) (list_all is_byte w) bytes_w in
    let small_x : x < 256 = grind (arith, nat_tests) in
    let small_y : y < 256 = grind (arith, nat_tests) in
    let same = same_digits (a * 2 ^ 8 + x) (b * 2 ^ 8 + y) v w (omega arith) parts_v.1 parts_w.1 e in
    let front : a ≡ b = omega (arith, same.0) in
    let head : x ≡ y = omega (arith, same.0) in
    let tail : v ≡ w = same.1 in
    (front, cc)

-- after zeros the same letters begin
same_behind_zeros : (n m : ℕ) (v w : List ℕ) → 1 ≤ length v → 1 ≤ length w → list_all is_ascii_uppercase v ≡ true → list_all is_ascii_uppercase w ≡ true → replicate n 0 ++ v ≡ replicate m 0 ++ w → v ≡ w
same_behind_zeros zero zero v w some_v some_w legal_v legal_w e = e
same_behind_zeros (suc n) (suc m) v w some_v some_w legal_v legal_w e =
    same_behind_zeros n m v w some_v some_w legal_v legal_w (cc)
same_behind_zeros zero (suc m) [] w some_v some_w legal_v legal_w e = absurd (omega arith)
same_behind_zeros zero (suc m) (x ∷ v) w some_v some_w legal_v legal_w e =
    let none : x ≡ 0 = cc in
    absurd (omega (arith, none, (letters_parts x v legal_v).0))
same_behind_zeros (suc n) zero v [] some_v some_w legal_v legal_w e = absurd (omega arith)
same_behind_zeros (suc n) zero v (y ∷ w) some_v some_w legal_v legal_w e =
    let none : y ≡ 0 = cc in
    absurd (omega (arith, none, (letters_parts y w legal_w).0))

-- words of one number are the same
pub same_word : (v w : List ℕ) → is_word v ≡ true → is_word w ≡ true → number_of 8 v ≡ number_of 8 w → v ≡ w
same_word v w legal_v legal_w e =
    let parts_v = is_word-parts v legal_v in
    let parts_w = is_word-parts w legal_w in
    let n : ℕ = 4 - length v in
    let m : ℕ = 4 - length w in
    let long : length (replicate n 0 ++ v) ≡ length (replicate m 0 ++ w) = simp (length-append, length-replicate) (omega arith) in
    let same = same_digits 0 0 (replicate n 0 ++ v) (replicate m 0 ++ w) long (list_all-padded n v (list_all-bytes v parts_v.2)) (list_all-padded m w (list_all-bytes w parts_w.2)) (number_of-padded n v ∙ e ∙ sym (number_of-padded m w)) in
    same_behind_zeros n m v w parts_v.0 parts_w.0 parts_v.2 parts_w.2 same.1

-- a look-up finds a word at its place
pub found_place : (words : List (List ℕ)) (place : ℕ → Option ℕ) (bytes : List ℕ) (r : Option ℕ) → IsPlaced words place → IsDictionary words → is_word (str_to_ascii_uppercase bytes) ≡ true → r ≡ place (number_of 8 (str_to_ascii_uppercase bytes)) → IfSome r (λ i. slice_get words i ≡ Some (str_to_ascii_uppercase bytes))
found_place words place bytes None placed dictionary legal e = tt
found_place words place bytes (Some i) placed dictionary legal e =
    let there = placed.found (number_of 8 (str_to_ascii_uppercase bytes)) i (sym e) in
    there.1 ∙ ap Some (same_word there.0 (str_to_ascii_uppercase bytes) (dictionary.legal i there.0 there.1) legal there.2)

-- a word's place is found
pub only_place : (words : List (List ℕ)) (place : ℕ → Option ℕ) (bytes : List ℕ) (r : Option ℕ) → IsPlaced words place → r ≡ place (number_of 8 (str_to_ascii_uppercase bytes)) → (i : ℕ) → slice_get words i ≡ Some (str_to_ascii_uppercase bytes) → r ≡ Some i
only_place words place bytes r placed e i there = e ∙ placed.only i (str_to_ascii_uppercase bytes) there

-- what is no word has no place
pub no_place : (words : List (List ℕ)) (bytes : List ℕ) → IsDictionary words → false ≡ (nat_le 1 (length bytes) && nat_le (length bytes) 4 && list_all is_ascii_alphabetic bytes) → (i : ℕ) → slice_get words i ≡ Some (str_to_ascii_uppercase bytes) → ⊥
no_place words bytes dictionary e i there = false≢true (e ∙ sym (is_word-upper bytes) ∙ dictionary.legal i (str_to_ascii_uppercase bytes) there)
