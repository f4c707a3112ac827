-- Word lists, line by line.
use Rattle.std.proofs.Common.{◌≡◌, ℕ, zero, suc, ◌+◌, ◌<◌, ◌≤◌, Bool, true, false, List, [], ◌∷◌, ◌++◌, length, take, drop, map, refl, sym, ap, subst, ◌∙◌, arith, ◌&&◌, ◌||◌, ◌⊎◌, Option, Some, None, inl, inr, not, cond}
use Rattle.std.specs.Prelude.{slice_get, nat_le, ◌==◌, is_some}
use Rattle.std.specs.Char.{is_ascii_alphabetic}
use Rattle.std.specs.List.{list_all, list_any, prefix_len, slice_split}
use Rattle.std.specs.Str.{bytes_eq, str_to_ascii_uppercase}
use Rattle.std.specs.Str.Lines.{lines, lines_of_parts, strip_carriage_return}
use Rattle.std.specs.Ordering.{nat_cmp, is_eq}
use Rattle.std.proofs.lemmas.Bool.{false≢true, cases_lt, cases_eq}
use Rattle.std.proofs.lemmas.Bool.Decides.{nat_tests}
use Rattle.std.proofs.lemmas.Option.{slice_get_within}
use Rattle.std.proofs.lemmas.Slice.Eq.{bytes_eq-Decides}
use Rattle.std.proofs.lemmas.List.Splits.{slice_split_first, length-slice_split}
use Rattle.std.proofs.Common.{length-append}
use Rattle.std.proofs.lemmas.List.{map-append}
use Rattle.fixed_list.specs.declared.FixedList.{FixedList}
use Rattle.fixed_list.specs.FixedList.{list_of}
use Rattle.otp_words.specs.declared.fault.DictRule.TheVariants as rules_of
use Rattle.otp_words.specs.Digits.{number_of}
use Rattle.otp_words.specs.Dictionaries.{is_word, IsDictionary}
use Rattle.otp_words.specs.Lists.{rule_of}
use Rattle.otp_words.specs.Inner.{IsPlaced, AreWords}
use Rattle.otp_words.proofs.DictionaryLemmas.{same_word}

-- a test that isn't true is false
not_true : (b : Bool) → (b ≡ true → ⊥) → b ≡ false
not_true true h = absurd (h refl)
not_true false h = refl

-- or true
or_true : (b : Bool) → (b || true) ≡ true
or_true true = refl
or_true false = refl

-- a word that has a place is among the words
any_at : (words : List (List ℕ)) (i : ℕ) (word : List ℕ) → slice_get words i ≡ Some word → list_any (λ w. bytes_eq w word) words ≡ true
any_at [] i word e = absurd (cc)
any_at (w ∷ words) zero word e =
    let same : w ≡ word = cc in
    let test : bytes_eq w word ≡ true = (bytes_eq-Decides w word).1 same in
    rw test refl
any_at (w ∷ words) (suc i) word e =
    rw (any_at words i word e) (or_true (bytes_eq w word))

-- a word that has no place is not among the words
none_at : (words : List (List ℕ)) (word : List ℕ) → ((i : ℕ) → slice_get words i ≡ Some word → ⊥) → list_any (λ w. bytes_eq w word) words ≡ false
none_at [] word nowhere = refl
none_at (w ∷ words) word nowhere =
    let test : bytes_eq w word ≡ false = not_true (bytes_eq w word) (λ e. nowhere 0 (ap (λ (v : List ℕ). Some v) ((bytes_eq-Decides w word).0 e))) in
    rw test (none_at words word (λ i e. nowhere (suc i) e))

-- a line of no word's length
pub rule_length : (words : List (List ℕ)) (line : List ℕ) → (nat_le 1 (length line) && nat_le (length line) 4) ≡ false → Some rules_of.Length ≡ rule_of words line
unfolding rule_of
rule_length words line e = rw e refl

-- a line with a byte that is no letter
pub rule_letter : (words : List (List ℕ)) (line : List ℕ) → (nat_le 1 (length line) && nat_le (length line) 4) ≡ true → list_all is_ascii_alphabetic line ≡ false → Some rules_of.Letter ≡ rule_of words line
unfolding rule_of
rule_letter words line e f = rw (e, f) refl

-- a line of a word that has a place
twice : (words : List (List ℕ)) (place : ℕ → Option ℕ) (word : List ℕ) (r : Option ℕ) → IsPlaced words place → AreWords words → is_word word ≡ true → r ≡ place (number_of 8 word) → is_some r ≡ true → list_any (λ w. bytes_eq w word) words ≡ true
twice words place word None placed are legal e some = absurd (false≢true some)
twice words place word (Some i) placed are legal e some =
    let there = placed.found (number_of 8 word) i (sym e) in
    any_at words i word (there.1 ∙ ap (λ (v : List ℕ). Some v) (same_word there.0 word (are.legal i there.0 there.1) legal there.2))

-- a line whose word was there before
pub rule_twice : (words : List (List ℕ)) (place : ℕ → Option ℕ) (line : List ℕ) → IsPlaced words place → AreWords words → is_word (str_to_ascii_uppercase line) ≡ true → (nat_le 1 (length line) && nat_le (length line) 4) ≡ true → list_all is_ascii_alphabetic line ≡ true → is_some (place (number_of 8 (str_to_ascii_uppercase line))) ≡ true → Some rules_of.Twice ≡ rule_of words line
unfolding rule_of
rule_twice words place line placed are legal e f some = rw (e, f, twice words place (str_to_ascii_uppercase line) (place (number_of 8 (str_to_ascii_uppercase line))) placed are legal refl some) refl

-- a word without a place is new
nowhere : (words : List (List ℕ)) (place : ℕ → Option ℕ) (word : List ℕ) → IsPlaced words place → is_some (place (number_of 8 word)) ≡ false → (i : ℕ) → slice_get words i ≡ Some word → ⊥
nowhere words place word placed none i there = false≢true (sym none ∙ ap is_some (placed.only i word there))

-- a line of a new word
pub rule_none : (words : List (List ℕ)) (place : ℕ → Option ℕ) (line : List ℕ) → IsPlaced words place → (nat_le 1 (length line) && nat_le (length line) 4) ≡ true → list_all is_ascii_alphabetic line ≡ true → is_some (place (number_of 8 (str_to_ascii_uppercase line))) ≡ false → None ≡ rule_of words line
unfolding rule_of
rule_none words place line placed e f none = rw (e, f, none_at words (str_to_ascii_uppercase line) (nowhere words place (str_to_ascii_uppercase line) placed none)) refl

-- an element of the front
get_left : (xs ys : List (List ℕ)) (i : ℕ) → i < length xs → slice_get (xs ++ ys) i ≡ slice_get xs i
get_left [] ys i lt = absurd (omega arith)
get_left (x ∷ xs) ys zero lt = refl
get_left (x ∷ xs) ys (suc i) lt = get_left xs ys i (omega arith)

-- the element after the front
get_last : (xs : List (List ℕ)) (y : List ℕ) (i : ℕ) → i ≡ length xs → slice_get (xs ++ y ∷ []) i ≡ Some y
get_last [] y zero e = refl
get_last [] y (suc i) e = absurd (omega arith)
get_last (x ∷ xs) y zero e = absurd (omega arith)
get_last (x ∷ xs) y (suc i) e = get_last xs y i (omega arith)

-- an element is in the front or the last
get_cases : (words : List (List ℕ)) (word : List ℕ) (i : ℕ) (w : List ℕ) → slice_get (words ++ word ∷ []) i ≡ Some w → (slice_get words i ≡ Some w) ⊎ ((i ≡ length words) × (w ≡ word))
get_cases words word i w there =
    elim (cases_lt i (length words)) [
      | inl lt ↦ inl (sym (get_left words (word ∷ []) i lt) ∙ there)
      | inr le ↦
          let last : i ≡ length words = omega (arith, slice_get_within (words ++ word ∷ []) i w there, length-append words (word ∷ [])) in
          let some : Some word ≡ Some w = sym (get_last words word i last) ∙ there in
          let same : w ≡ word = cc in
          inr (last, same)
    ]

-- words with one more
pub AreWords-more : (words : List (List ℕ)) (word : List ℕ) → AreWords words → is_word word ≡ true → AreWords (words ++ word ∷ [])
AreWords-more words word are legal = record {
  legal = λ i w there. elim (get_cases words word i w there) [
    | inl before ↦ are.legal i w before
    | inr last ↦ ap is_word last.1 ∙ legal
  ];
}

-- equal numbers compare as equal
is_eq-same : (n : ℕ) → is_eq (nat_cmp n n) ≡ true
is_eq-same n = grind (arith, nat_tests)

-- other numbers don't
is_eq-other : (m n : ℕ) → (m ≡ n → ⊥) → is_eq (nat_cmp m n) ≡ false
is_eq-other m n other = grind (arith, nat_tests)

-- a look-up with one word more, from case to case
place_cases : (key number : ℕ) (n : ℕ) (before after : Option ℕ) → after ≡ cond (is_eq (nat_cmp key number)) (Some n) before → ((key ≡ number) × (after ≡ Some n)) ⊎ ((key ≡ number → ⊥) × (after ≡ before))
place_cases key number n before after e =
    elim (cases_eq key number) [
      | inl same ↦
          let test : is_eq (nat_cmp key number) ≡ true = rw same (is_eq-same number) in
          inl (same, e ∙ rw test refl)
      | inr other ↦
          let test : is_eq (nat_cmp key number) ≡ false = is_eq-other key number other in
          inr (other, e ∙ rw test refl)
    ]

-- places with one word more
pub IsPlaced-more : (words : List (List ℕ)) (place after : ℕ → Option ℕ) (word : List ℕ) → IsPlaced words place → is_some (place (number_of 8 word)) ≡ false → ((q : ℕ) → after q ≡ cond (is_eq (nat_cmp (number_of 8 word) q)) (Some (length words)) (place q)) → IsPlaced (words ++ word ∷ []) after
IsPlaced-more words place after word placed none update = record {
  found = λ number i there. elim (place_cases (number_of 8 word) number (length words) (place number) (after number) (update number)) [
    | inl new ↦
        let some : Some i ≡ Some (length words) = sym there ∙ new.1 in
        let last : i ≡ length words = cc in
        (word, get_last words word i last, new.0)
    | inr old ↦
        let before = placed.found number i (sym old.1 ∙ there) in
        (before.0, get_left words (word ∷ []) i (slice_get_within words i before.0 before.1) ∙ before.1, before.2)
  ];
  only = λ i w there. elim (get_cases words word i w there) [
    | inl before ↦ elim (place_cases (number_of 8 word) (number_of 8 w) (length words) (place (number_of 8 w)) (after (number_of 8 w)) (update (number_of 8 w))) [
      | inl new ↦ absurd (false≢true (sym none ∙ ap (λ (n : ℕ). is_some (place n)) new.0 ∙ ap is_some (placed.only i w before)))
      | inr old ↦ old.1 ∙ placed.only i w before
    ]
    | inr last ↦ elim (place_cases (number_of 8 word) (number_of 8 w) (length words) (place (number_of 8 w)) (after (number_of 8 w)) (update (number_of 8 w))) [
      | inl new ↦ new.1 ∙ ap (λ (n : ℕ). Some n) (sym last.0)
      | inr old ↦ absurd (old.0 (ap (number_of 8) (sym last.1)))
    ]
  ];
}

-- no words have no places
pub IsPlaced-none : (place : ℕ → Option ℕ) → ((q : ℕ) → place q ≡ None) → IsPlaced [] place
IsPlaced-none place none = record {
  found = λ number i there.
      let some : None ≡ Some i = sym (none number) ∙ there in
      absurd (cc);
  only = λ i word there. absurd (cc);
}

-- no words are words
pub AreWords-none : AreWords []
AreWords-none = record { legal = λ i word there. absurd (cc) }

-- words that have places are different
pub IsDictionary-from : (words : List (List ℕ)) (place : ℕ → Option ℕ) → IsPlaced words place → AreWords words → length words ≡ 2048 → IsDictionary words
IsDictionary-from words place placed are all = record {
  count = all;
  legal = are.legal;
  different = λ i j word at_i at_j.
      let some : Some i ≡ Some j = sym (placed.only i word at_i) ∙ placed.only j word at_j in
      cc;
}

-- the parts of a text that begins with no newline
split_none_at : (c : ℕ) (cs : List ℕ) (b : Bool) → (prefix_len (λ x. not (x == 10)) cs ≡ length cs → slice_split (λ x. x == 10) cs ≡ cs ∷ []) → (c == 10) ≡ b → prefix_len (λ x. not (x == 10)) (c ∷ cs) ≡ suc (length cs) → slice_split (λ x. x == 10) (c ∷ cs) ≡ (c ∷ cs) ∷ []
split_none_at c cs true rest here e =
    let none : 0 ≡ suc (length cs) = subst (λ (t : Bool). cond (not t) (1 + prefix_len (λ x. not (x == 10)) cs) 0 ≡ suc (length cs)) here e in
    absurd (omega arith)
split_none_at c cs false rest here e =
    let more : 1 + prefix_len (λ x. not (x == 10)) cs ≡ suc (length cs) = subst (λ (t : Bool). cond (not t) (1 + prefix_len (λ x. not (x == 10)) cs) 0 ≡ suc (length cs)) here e in
    rw (here, rest (omega arith)) refl

-- a text without a newline is one part
split_none : (text : List ℕ) → prefix_len (λ b. not (b == 10)) text ≡ length text → slice_split (λ b. b == 10) text ≡ text ∷ []
split_none [] e = refl
split_none (c ∷ cs) e = split_none_at c cs (c == 10) (split_none cs) refl e

-- a text without a newline is a line
pub last_line : (text : List ℕ) → 1 ≤ length text → prefix_len (λ b. not (b == 10)) text ≡ length text → lines text ≡ text ∷ []
last_line text some e =
    let full : (length text == 0) ≡ false = grind (arith, nat_tests) in
    ap lines_of_parts (split_none text e) ∙ rw full refl

-- a part before others is a line
line_of_part : (x : List ℕ) (parts : List (List ℕ)) → 1 ≤ length parts → lines_of_parts (x ∷ parts) ≡ strip_carriage_return x ∷ lines_of_parts parts
line_of_part x [] some = absurd (omega arith)
line_of_part x (y ∷ parts) some = refl

-- the first line of a text, and what follows it
pub first_line : (text : List ℕ) → prefix_len (λ b. not (b == 10)) text < length text → lines text ≡ strip_carriage_return (take (prefix_len (λ b. not (b == 10)) text) text) ∷ lines (drop (prefix_len (λ b. not (b == 10)) text + 1) text)
first_line text within =
    ap lines_of_parts (slice_split_first (λ b. b == 10) text 0 within)
    ∙ line_of_part _ (slice_split (λ b. b == 10) (drop (prefix_len (λ b. not (b == 10)) text + 1) text)) (omega (arith, length-slice_split (λ b. b == 10) (drop (prefix_len (λ b. not (b == 10)) text + 1) text)))

-- a word put after others
pub added_words : (before after : List (FixedList 4)) (added : FixedList 4) (word : List ℕ) → after ≡ before ++ added ∷ [] → list_of added ≡ word → map list_of after ≡ map list_of before ++ word ∷ []
added_words before after added word e same =
    ap (λ (x : List (FixedList 4)). map list_of x) e ∙ map-append list_of before (added ∷ []) ∙ ap (λ (w : List ℕ). map list_of before ++ w ∷ []) same
