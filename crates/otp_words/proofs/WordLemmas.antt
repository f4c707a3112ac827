-- Words parted by blanks, one after the other.
use Rattle.std.proofs.Common.{◌≡◌, ℕ, ◌≤◌, true, false, List, [], ◌∷◌, ◌++◌, length, take, drop, refl, sym, ap, subst, ◌∙◌, arith, ◌&&◌, Some}
use Rattle.std.specs.Prelude.{slice_get, nat_le}
use Rattle.std.specs.Char.{is_ascii_alphabetic}
use Rattle.std.specs.List.{list_all, prefix_len}
use Rattle.std.specs.Str.{str_to_ascii_uppercase}
use Rattle.std.proofs.lemmas.Bool.{and_parts, and_from}
use Rattle.std.proofs.lemmas.Bool.Decides.{nat_tests}
use Rattle.std.proofs.lemmas.List.{take_at, drop_at, append-nil}
use Rattle.std.proofs.Math.Seq.{take-length, drop-length}
use Rattle.otp_words.specs.Blanks.{is_blank, is_no_blank}
use Rattle.otp_words.specs.Dictionaries.{is_word, IsDictionary}
use Rattle.otp_words.specs.Words.{IsWords}
use Rattle.otp_words.proofs.DictionaryLemmas.{is_word-upper, is_word-parts}
use Rattle.otp_words.proofs.RunLemmas.{prefix_len-exact}

-- a letter is no blank
is_no_blank-letter : (c : ℕ) → is_ascii_alphabetic c ≡ true → is_no_blank c ≡ true
is_no_blank-letter c e = grind (arith, nat_tests)

-- a letter is no blank, as a blank is asked for
is_blank-letter : (c : ℕ) → is_ascii_alphabetic c ≡ true → is_blank c ≡ false
is_blank-letter c e = grind (arith, nat_tests)

-- letters are no blanks
list_all-letters : (cs : List ℕ) → list_all is_ascii_alphabetic cs ≡ true → list_all is_no_blank cs ≡ true
list_all-letters [] e = refl
list_all-letters (c ∷ cs) e =
    let parts = and_parts (is_ascii_alphabetic c) (list_all is_ascii_alphabetic cs) e in
    and_from _ _ (is_no_blank-letter c parts.0) (list_all-letters cs parts.1)

-- the letters of a word in any case
word_letters : (bytes : List ℕ) → is_word (str_to_ascii_uppercase bytes) ≡ true → list_all is_ascii_alphabetic bytes ≡ true
word_letters bytes e = (and_parts (nat_le 1 (length bytes) && nat_le (length bytes) 4) (list_all is_ascii_alphabetic bytes) (sym (is_word-upper bytes) ∙ e)).1

-- no blank begins a word
word_begins : (bytes rest : List ℕ) → is_word (str_to_ascii_uppercase bytes) ≡ true → prefix_len is_blank (bytes ++ rest) ≡ 0
word_begins [] rest e = absurd (omega (arith, (is_word-parts [] e).0))
word_begins (c ∷ cs) rest e =
    rw (is_blank-letter c (and_parts (is_ascii_alphabetic c) (list_all is_ascii_alphabetic cs) (word_letters (c ∷ cs) e)).0) refl

-- no blank begins words
words_begin : (words : List (List ℕ)) (places text : List ℕ) → IsDictionary words → IsWords words places text → prefix_len is_blank text ≡ 0
words_begin words [] text dictionary is = absurd is
words_begin words (i ∷ []) text dictionary is =
    let same : text ++ [] ≡ text = append-nil text in
    ap (λ (t : List ℕ). prefix_len is_blank t) (sym same) ∙ word_begins text [] (dictionary.legal i (str_to_ascii_uppercase text) is)
words_begin words (i ∷ j ∷ places) text dictionary is =
    ap (λ (t : List ℕ). prefix_len is_blank t) is.3 ∙ word_begins is.0 (is.1 ++ is.2) (dictionary.legal i (str_to_ascii_uppercase is.0) is.4)

-- a blank ends a word
gap_stops : (gap rest : List ℕ) → 1 ≤ length gap → list_all is_blank gap ≡ true → prefix_len is_no_blank (gap ++ rest) ≡ 0
gap_stops [] rest some blank = absurd (omega arith)
gap_stops (c ∷ cs) rest some blank = rw ((and_parts (is_blank c) (list_all is_blank cs) blank).0) refl

-- the front of a text that has no blanks, and what follows
abbrev pub front_of : List ℕ → List ℕ
front_of text = take (prefix_len is_no_blank text) text

abbrev pub behind : List ℕ → List ℕ
behind text = drop (prefix_len is_no_blank text) text

-- the front of a text that is blanks, and what follows
abbrev pub gap_of : List ℕ → List ℕ
gap_of text = take (prefix_len is_blank text) text

abbrev pub behind_gap : List ℕ → List ℕ
behind_gap text = drop (prefix_len is_blank text) text

-- a single word is all of the text
pub whole_word : (words : List (List ℕ)) (i : ℕ) (text : List ℕ) → IsDictionary words → IsWords words (i ∷ []) text → (front_of text ≡ text) × (behind text ≡ [])
whole_word words i text dictionary is =
    let letters = list_all-letters text (word_letters text (dictionary.legal i (str_to_ascii_uppercase text) is)) in
    let all : prefix_len is_no_blank text ≡ length text = ap (λ (t : List ℕ). prefix_len is_no_blank t) (sym (append-nil text)) ∙ prefix_len-exact is_no_blank text [] letters refl in
    (rw all (take-length text), rw all (drop-length text))

-- the first of several words, the blanks after it and the rest
pub first_word : (words : List (List ℕ)) (i j : ℕ) (places text : List ℕ) → IsDictionary words → IsWords words (i ∷ j ∷ places) text → (slice_get words i ≡ Some (str_to_ascii_uppercase (front_of text))) × (1 ≤ length (gap_of (behind text))) × IsWords words (j ∷ places) (behind_gap (behind text))
first_word words i j places text dictionary is =
    let front = is.0 in
    let gap = is.1 in
    let rest = is.2 in
    let letters = list_all-letters front (word_letters front (dictionary.legal i (str_to_ascii_uppercase front) is.4)) in
    let n : prefix_len is_no_blank text ≡ length front = ap (λ (t : List ℕ). prefix_len is_no_blank t) is.3 ∙ prefix_len-exact is_no_blank front (gap ++ rest) letters (gap_stops gap rest is.5 is.6) in
    let taken : front_of text ≡ front = rw n (ap (λ (t : List ℕ). take (length front) t) is.3 ∙ take_at front (gap ++ rest) (length front) refl) in
    let left : behind text ≡ gap ++ rest = rw n (ap (λ (t : List ℕ). drop (length front) t) is.3 ∙ drop_at front (gap ++ rest) (length front) refl) in
    let m : prefix_len is_blank (gap ++ rest) ≡ length gap = prefix_len-exact is_blank gap rest is.6 (words_begin words (j ∷ places) rest dictionary is.7) in
    let blanks : gap_of (behind text) ≡ gap = ap gap_of left ∙ rw m (take_at gap rest (length gap) refl) in
    let others : behind_gap (behind text) ≡ rest = ap behind_gap left ∙ rw m (drop_at gap rest (length gap) refl) in
    (is.4 ∙ ap (λ (t : List ℕ). Some (str_to_ascii_uppercase t)) (sym taken), subst (λ (t : List ℕ). 1 ≤ length t) (sym blanks) is.5, subst (λ (t : List ℕ). IsWords words (j ∷ places) t) (sym others) is.7)

-- the first of some words
pub first_place : (words : List (List ℕ)) (i : ℕ) (places text : List ℕ) → IsDictionary words → IsWords words (i ∷ places) text → slice_get words i ≡ Some (str_to_ascii_uppercase (front_of text))
first_place words i [] text dictionary is = is ∙ ap (λ (t : List ℕ). Some (str_to_ascii_uppercase t)) (sym (whole_word words i text dictionary is).0)
first_place words i (j ∷ places) text dictionary is = (first_word words i j places text dictionary is).0
