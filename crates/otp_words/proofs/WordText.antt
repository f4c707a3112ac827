-- What is written as words, and that it is read.
use Rattle.std.proofs.Common.{◌≡◌, ℕ, zero, suc, ◌+◌, ◌-◌, ◌*◌, ◌/◌, ◌%◌, ◌^◌, ◌<◌, ◌≤◌, true, List, [], ◌∷◌, ◌++◌, length, take, drop, refl, sym, ap, subst, ◌∙◌, arith, Some, append_assoc, length-append}
use Rattle.std.specs.Prelude.{slice_get, slice_index_or, slice_set}
use Rattle.std.specs.Char.{is_ascii_uppercase, to_ascii_uppercase}
use Rattle.std.specs.List.{list_all}
use Rattle.std.specs.Str.{str_to_ascii_uppercase}
use Rattle.std.proofs.lemmas.Bool.{and_parts}
use Rattle.std.proofs.lemmas.Bool.Decides.{nat_tests}
use Rattle.std.proofs.lemmas.Nat.{mod_below}
use Rattle.std.proofs.lemmas.Option.{slice_get-get_or, get_or_from_slice_get}
use Rattle.std.proofs.lemmas.List.{take_at, drop_at, drop-drop, append-nil}
use Rattle.std.proofs.Math.Seq.{take-length, drop-length}
use borrow.Rule.Slice.PartMut.{mid_of, post_of, put_mid}
use Rattle.otp_words.specs.Digits.{digits_of}
use Rattle.otp_words.specs.Dictionaries.{IsDictionary}
use Rattle.otp_words.specs.Words.{spaced, words_at, words_text, IsWords, IsSixWords, checked}
use Rattle.otp_words.proofs.DigitLemmas.{number_of-digits_of}
use Rattle.otp_words.proofs.DictionaryLemmas.{is_word-parts}

-- an upper-case letter stays
upper_letter : (c : ℕ) → is_ascii_uppercase c ≡ true → to_ascii_uppercase c ≡ c
upper_letter c e = grind (arith, nat_tests)

-- upper-case letters stay
pub upper_letters : (cs : List ℕ) → list_all is_ascii_uppercase cs ≡ true → str_to_ascii_uppercase cs ≡ cs
upper_letters [] e = refl
upper_letters (c ∷ cs) e =
    let parts = and_parts (is_ascii_uppercase c) (list_all is_ascii_uppercase cs) e in
    let head : to_ascii_uppercase c ≡ c = upper_letter c parts.0 in
    let tail : str_to_ascii_uppercase cs ≡ cs = upper_letters cs parts.1 in
    cc

-- a word of a dictionary, as it is written
written_word : (words : List (List ℕ)) (i : ℕ) → IsDictionary words → i < 2048 → slice_get words i ≡ Some (str_to_ascii_uppercase (slice_index_or words i []))
written_word words i dictionary below =
    let there : slice_get words i ≡ Some (slice_index_or words i []) = slice_get-get_or words i [] (omega (arith, dictionary.count)) in
    let legal = is_word-parts (slice_index_or words i []) (dictionary.legal i (slice_index_or words i []) there) in
    there ∙ ap (λ (w : List ℕ). Some w) (sym (upper_letters (slice_index_or words i []) legal.2))

-- words that are written are words
spaced_words : (words : List (List ℕ)) (k number : ℕ) → IsDictionary words → IsWords words (digits_of 11 (suc k) number) (spaced (words_at words (digits_of 11 (suc k) number)))
spaced_words words zero number dictionary = written_word words (number / 2 ^ (11 * 0) % 2 ^ 11) dictionary (mod_below (number / 2 ^ (11 * 0)) 2048 (omega arith))
spaced_words words (suc k) number dictionary =
    let i : ℕ = number / 2 ^ (11 * suc k) % 2 ^ 11 in
    (slice_index_or words i [], 32 ∷ [], spaced (words_at words (digits_of 11 (suc k) number)), refl, written_word words i dictionary (mod_below (number / 2 ^ (11 * suc k)) 2048 (omega arith)), omega arith, refl, spaced_words words k number dictionary)

-- a password that is written is read
pub words_text-reads : (words : List (List ℕ)) (password : ℕ) → IsDictionary words → checked password < 2 ^ 66 → IsSixWords words (words_text words password) password
unfolding words_text
words_text-reads words password dictionary small =
    (digits_of 11 6 (checked password), refl, spaced_words words 5 (checked password) dictionary, number_of-digits_of 11 6 (checked password) small)

-- the words from one on
pub spaced_more : (words : List (List ℕ)) (word : List ℕ) (count number : ℕ) → 1 ≤ count → (count ≡ 1 → ⊥) → slice_get words (number / 2 ^ (11 * (count - 1)) % 2 ^ 11) ≡ Some word → spaced (words_at words (digits_of 11 count number)) ≡ word ++ 32 ∷ spaced (words_at words (digits_of 11 (count - 1) number))
spaced_more words word count number some several there =
    let k : ℕ = count - 2 in
    let this : count ≡ suc (suc k) = omega arith in
    let next : count - 1 ≡ suc k = omega arith in
    let head : slice_index_or words (number / 2 ^ (11 * suc k) % 2 ^ 11) [] ≡ word = get_or_from_slice_get words (number / 2 ^ (11 * suc k) % 2 ^ 11) word [] (subst (λ (n : ℕ). slice_get words (number / 2 ^ (11 * n) % 2 ^ 11) ≡ Some word) next there) in
    ap (λ (n : ℕ). spaced (words_at words (digits_of 11 n number))) this
    ∙ ap (λ (w : List ℕ). w ++ 32 ∷ spaced (words_at words (digits_of 11 (suc k) number))) head
    ∙ ap (λ (n : ℕ). word ++ 32 ∷ spaced (words_at words (digits_of 11 n number))) (sym next)

-- a byte put after bytes
set-behind : (word out : List ℕ) → length word < length out → slice_set (word ++ drop (length word) out) (length word) 32 ≡ word ++ 32 ∷ drop (suc (length word)) out
set-behind word [] less = absurd (omega arith)
set-behind [] (x ∷ out) less = refl
set-behind (w ∷ word) (x ∷ out) less = ap (λ (t : List ℕ). w ∷ t) (set-behind word out (omega arith))

-- what is written after a front
put_behind : (front tail rest new : List ℕ) (a r : ℕ) → length front ≡ a → new ≡ rest ++ drop r (mid_of a (length (front ++ tail) - a) (front ++ tail)) → put_mid a (length (front ++ tail) - a) (front ++ tail) new ≡ front ++ (rest ++ drop r tail)
put_behind front tail rest new a r long e =
    let left : length (front ++ tail) - a ≡ length tail = omega (arith, long, length-append front tail) in
    let t : take a (front ++ tail) ≡ front = take_at front tail a long in
    let d : drop a (front ++ tail) ≡ tail = drop_at front tail a long in
    let mid : mid_of a (length (front ++ tail) - a) (front ++ tail) ≡ tail = rw (left, d) (take-length tail) in
    let post : post_of a (length (front ++ tail) - a) (front ++ tail) ≡ [] = rw (left, d) (drop-length tail) in
    ap (λ (x : List ℕ). x ++ (new ++ post_of a (length (front ++ tail) - a) (front ++ tail))) t
    ∙ ap (λ (x : List ℕ). front ++ (new ++ x)) post
    ∙ ap (λ (x : List ℕ). front ++ x) (append-nil new ∙ e ∙ ap (λ (m : List ℕ). rest ++ drop r m) mid)

-- a word, a space and what is written after them
pub put_more : (word rest out buffer new : List ℕ) (r : ℕ) → length word < length out → buffer ≡ slice_set (word ++ drop (length word) out) (length word) 32 → new ≡ rest ++ drop r (mid_of (length word + 1) (length buffer - (length word + 1)) buffer) → put_mid (length word + 1) (length buffer - (length word + 1)) buffer new ≡ (word ++ 32 ∷ rest) ++ drop (length word + 1 + r) out
put_more word rest out buffer new r less is e =
    let tail : List ℕ = drop (suc (length word)) out in
    let front : List ℕ = word ++ 32 ∷ [] in
    let long : length front ≡ length word + 1 = length-append word (32 ∷ []) in
    let same : front ++ tail ≡ buffer = append_assoc word (32 ∷ []) tail ∙ sym (set-behind word out less) ∙ sym is in
    let Claim : List ℕ → Type 0 = λ b. new ≡ rest ++ drop r (mid_of (length word + 1) (length b - (length word + 1)) b) → put_mid (length word + 1) (length b - (length word + 1)) b new ≡ front ++ (rest ++ drop r tail) in
    let put : Claim buffer = subst Claim same (put_behind front tail rest new (length word + 1) r long) in
    let behind : drop r tail ≡ drop (length word + 1 + r) out = drop-drop r (suc (length word)) out ∙ ap (λ (n : ℕ). drop n out) (omega arith) in
    put e ∙ ap (λ (x : List ℕ). front ++ (rest ++ x)) behind ∙ simp append_assoc
