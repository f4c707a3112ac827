-- The number that words stand for, one word after the other.
use Rattle.std.proofs.Common.{◌≡◌, ℕ, suc, ◌+◌, ◌-◌, ◌*◌, ◌^◌, ◌<◌, ◌≤◌, Bool, true, false, List, [], ◌∷◌, ◌++◌, length, refl, sym, ap, subst, ◌∙◌, arith, Option, Some, None}
use Rattle.std.specs.Prelude.{slice_get, fold, IfSome, ◌==◌, ◌/◌, sum}
use Rattle.std.proofs.Common.{eq-eqb}
use Rattle.std.specs.Bool.{then_some}
use Rattle.std.specs.List.{list_all}
use Rattle.std.specs.Str.{str_to_ascii_uppercase}
use Rattle.std.proofs.lemmas.Bool.Decides.{nat_tests}
use Rattle.std.proofs.lemmas.Nat.{mod_below}
use Rattle.std.proofs.lemmas.List.{append-nil}
use Rattle.otp_words.specs.Blanks.{is_blank}
use Rattle.otp_words.specs.Dictionaries.{IsDictionary}
use Rattle.otp_words.specs.Digits.{digits_of}
use Rattle.otp_words.specs.Words.{IsWords, check_bits, checked}
use Rattle.otp_words.proofs.DigitLemmas.{number_more}
use Rattle.otp_words.proofs.WordLemmas.{front_of, behind, gap_of, behind_gap, whole_word, first_word, first_place}

-- no list of something is empty
suc_is_not_zero : (n : ℕ) → (suc n == 0) ≡ false
suc_is_not_zero n = grind (arith, nat_tests)

-- what is empty has nothing
pub no_length : (n : ℕ) → 1 ≤ n → true ≡ (n == 0) → ⊥
no_length n some e = grind (arith, nat_tests)

-- what isn't empty has something
pub some_length : (n : ℕ) → false ≡ (n == 0) → 1 ≤ n
some_length n e = grind (arith, nat_tests)

-- the number of some words after the words that another stands for
abbrev pub number_from : ℕ → List ℕ → ℕ
number_from front places = fold (λ number digit. number * 2 ^ 11 + digit) front places

-- a number that so many words of a text stand for, after others
abbrev pub IsNumberOf : List (List ℕ) → List ℕ → ℕ → ℕ → ℕ → Type 0
IsNumberOf words text count front n = (places : List ℕ) × (length places ≡ count) × IsWords words places text × (n ≡ number_from front places)

-- the first word has a place
pub not_found : (words : List (List ℕ)) (text places : List ℕ) (r : Option ℕ) → IsDictionary words → IsWords words places text → ((i : ℕ) → slice_get words i ≡ Some (str_to_ascii_uppercase (front_of text)) → r ≡ Some i) → r ≡ None → ⊥
not_found words text [] r dictionary is only none = absurd is
not_found words text (i ∷ places) r dictionary is only none =
    let some : r ≡ Some i = only i (first_place words i places text dictionary is) in
    cc

-- the last word is read
pub last_only : (words : List (List ℕ)) (text places rest : List ℕ) (front place : ℕ) (found r : Option ℕ) → IsDictionary words → length places ≡ 1 → IsWords words places text → ((i : ℕ) → slice_get words i ≡ Some (str_to_ascii_uppercase (front_of text)) → found ≡ Some i) → found ≡ Some place → rest ≡ behind text → r ≡ then_some (length rest == 0) (front * 2048 + place) → r ≡ Some (number_from front places)
last_only words text [] rest front place found r dictionary long is only at left e = absurd is
last_only words text (i ∷ j ∷ places) rest front place found r dictionary long is only at left e = absurd (omega arith)
last_only words text (i ∷ []) rest front place found r dictionary long is only at left e =
    let there : found ≡ Some i = only i (first_place words i [] text dictionary is) in
    let same : place ≡ i = cc in
    let none : rest ≡ [] = left ∙ (whole_word words i text dictionary is).1 in
    e ∙ rw (none, same) refl

-- what is read as the last word is one
pub last_found : (words : List (List ℕ)) (text word rest : List ℕ) (count front place : ℕ) (r : Option ℕ) → count ≡ 1 → text ≡ word ++ rest → slice_get words place ≡ Some (str_to_ascii_uppercase word) → r ≡ then_some (length rest == 0) (front * 2048 + place) → IfSome r (IsNumberOf words text count front)
last_found words text word [] count front place r one split there e =
    let same : word ≡ text = sym (append-nil word) ∙ sym split in
    let known : IsNumberOf words text count front (front * 2048 + place) = (place ∷ [], sym one, there ∙ ap (λ (t : List ℕ). Some (str_to_ascii_uppercase t)) same, refl) in
    subst (λ (o : Option ℕ). IfSome o (IsNumberOf words text count front)) (sym e) known
last_found words text word (c ∷ cs) count front place r one split there e =
    let none : r ≡ None = e ∙ rw (suc_is_not_zero (length cs)) refl in
    subst (λ (o : Option ℕ). IfSome o (IsNumberOf words text count front)) (sym none) tt

-- what a test lets through is below what it is below
pub then_some_below : (test : Bool) (n bound : ℕ) (r : Option ℕ) → n < bound → r ≡ then_some test n → IfSome r (λ m. m < bound)
then_some_below true n bound r below e = subst (λ (o : Option ℕ). IfSome o (λ m. m < bound)) (sym e) below
then_some_below false n bound r below e = subst (λ (o : Option ℕ). IfSome o (λ m. m < bound)) (sym e) tt

-- the number with one word more
pub number_grows : (count front place : ℕ) → 1 ≤ count → count ≤ 6 → front < 2 ^ (11 * (6 - count)) → place < 2048 → front * 2048 + place < 2 ^ (11 * (6 - (count - 1)))
number_grows count front place some few small below =
    let more : 6 - (count - 1) ≡ (6 - count) + 1 = omega arith in
    rw more (number_more 11 (6 - count) front place small below)

-- the words after the first are read
pub more_only : (words : List (List ℕ)) (text places : List ℕ) (count front place : ℕ) (found r : Option ℕ) → IsDictionary words → (count ≡ 1 → ⊥) → length places ≡ count → IsWords words places text → ((i : ℕ) → slice_get words i ≡ Some (str_to_ascii_uppercase (front_of text)) → found ≡ Some i) → found ≡ Some place → ((others : List ℕ) → length others ≡ count - 1 → IsWords words others (behind_gap (behind text)) → r ≡ Some (number_from (front * 2048 + place) others)) → r ≡ Some (number_from front places)
more_only words text [] count front place found r dictionary several long is only at rest = absurd is
more_only words text (i ∷ []) count front place found r dictionary several long is only at rest = absurd (several (sym long))
more_only words text (i ∷ j ∷ places) count front place found r dictionary several long is only at rest =
    let parts = first_word words i j places text dictionary is in
    let there : found ≡ Some i = only i parts.0 in
    let same : place ≡ i = cc in
    rest (j ∷ places) (omega (arith, long)) parts.2 ∙ ap (λ (p : ℕ). Some (number_from (front * 2048 + p) (j ∷ places))) same

-- blanks stand between words
pub no_gap : (words : List (List ℕ)) (text places : List ℕ) (count : ℕ) → IsDictionary words → (count ≡ 1 → ⊥) → length places ≡ count → IsWords words places text → true ≡ (length (gap_of (behind text)) == 0) → ⊥
no_gap words text [] count dictionary several long is none = absurd is
no_gap words text (i ∷ []) count dictionary several long is none = several (sym long)
no_gap words text (i ∷ j ∷ places) count dictionary several long is none =
    no_length (length (gap_of (behind text))) (first_word words i j places text dictionary is).1 none

-- what is read as words is so
pub more_found : (words : List (List ℕ)) (text word gap rest : List ℕ) (count front place : ℕ) (r : Option ℕ) → 1 ≤ count → text ≡ word ++ (gap ++ rest) → slice_get words place ≡ Some (str_to_ascii_uppercase word) → false ≡ (length gap == 0) → list_all is_blank gap ≡ true → IfSome r (IsNumberOf words rest (count - 1) (front * 2048 + place)) → IfSome r (IsNumberOf words text count front)
more_found words text word gap rest count front place None some split there gapped blank is = tt
more_found words text word gap rest count front place (Some n) some split there gapped blank is =
    elim is.0 as (λ (ps : List ℕ). length ps ≡ count - 1 → IsWords words ps rest → n ≡ number_from (front * 2048 + place) ps → IsNumberOf words text count front n) [
      | [] ↦ λ long words_there same. absurd words_there
      | j ∷ ps ↦ λ long words_there same. (place ∷ j ∷ ps, omega (arith, long), (word, gap, rest, split, there, some_length (length gap) gapped, blank, words_there), same)
    ] is.1 is.2 is.3

-- the check bits are two bits
pub check_bits-below : (password : ℕ) → check_bits password < 4
unfolding check_bits
check_bits-below password = mod_below (sum (digits_of 2 32 password)) 4 (omega arith)

-- the password of a number with right check bits
pub checked_only : (number password again : ℕ) (r : Option ℕ) → number ≡ checked password → again ≡ checked (number / 4) → r ≡ then_some (again == number) (number / 4) → r ≡ Some password
checked_only number password again r is redone e =
    let below = check_bits-below password in
    let same : number / 4 ≡ password = omega (arith, is, below) in
    let agrees : again ≡ number = redone ∙ ap checked same ∙ sym is in
    let right : (again == number) ≡ true = eq-eqb again number agrees in
    e ∙ rw (right, same) refl
