-- The readers of parts, each with its writer.
use Rattle.std.proofs.Common.{◌≡◌, ℕ, zero, suc, ◌+◌, ◌/◌, ◌%◌, ◌^◌, ◌<◌, ◌≤◌, Bool, true, false, not, leb, ltb, eqb, cond, ◌&&◌, List, [], ◌∷◌, ◌++◌, length, Option, Some, None, Result, Ok, Err, refl, sym, ap, subst, ◌∙◌, arith, lit≤}
use Rattle.std.specs.Prelude.{find, slice_index, ◌==◌}
use Rattle.std.specs.Bool.{then_some}
use Rattle.std.specs.Char.{is_ascii_lowercase}
use Rattle.std.specs.Fmt.{decimal}
use Rattle.std.specs.Int.{w64, from_be_bytes, to_be_bytes}
use Rattle.std.specs.List.{list_all}
use Rattle.std.specs.Str.{bytes_eq}
use Rattle.std.proofs.lemmas.Bool.{and_parts, and_from, eqb-true, leb-true, le-leb, ltb-true, lt-ltb}
use Rattle.std.proofs.lemmas.Bool.Decides.{nat_tests}
use Rattle.std.proofs.lemmas.Fmt.{decimal_by_steps}
use Rattle.std.proofs.lemmas.List.{length-append}
use Rattle.std.proofs.lemmas.Slice.Eq.{bytes_eq-Decides}
use Rattle.std.proofs.lemmas.List.Folds.{list_all-append}
use Rattle.std.proofs.lemmas.Nat.{be_bytes_8, from_be_bytes-to_be_bytes_8}
use Rattle.hex.specs.Hex.{IsBytes, encode_lower, encode_with, lower_digits}
use Rattle.hex.proofs.HexLemmas.{decode_of-encode_lower, decode_of-ok, length-encode_with}
use Rattle.request_catalogue.specs.Results.{demand, ◌>>=◌}
use Rattle.request_catalogue.specs.Texts.{begins_name, continues_label, continues_name, is_label, is_name, is_note, is_printable}
use Rattle.decision_log.specs.declared.logged.LineFault.{LineFault}
use Rattle.decision_log.specs.declared.logged.LineFault.TheVariants as faults
use Rattle.text_line.specs.Reading.{decimal_of}
use Rattle.decision_log.specs.declared.words.AskWord.{AskWord}
use Rattle.decision_log.specs.declared.words.AskWord.TheVariants as ask_
use Rattle.decision_log.specs.declared.words.DecisionWord.{DecisionWord}
use Rattle.decision_log.specs.declared.words.DecisionWord.TheVariants as decision_
use Rattle.decision_log.specs.declared.words.WhyWord.{WhyWord}
use Rattle.decision_log.specs.declared.words.WhyWord.TheVariants as why_
use Rattle.decision_log.specs.Parts.{ends_part, hex_in, hex_of, lettered, name_in, number_below, password_in, rule_in}
use Rattle.decision_log.specs.Reading.{ask_word_in, decision_word_in, why_word_in}
use Rattle.decision_log.specs.Words.{ask_word, ask_words, decision_word, decision_words, why_word, why_words}
use Rattle.text_line.proofs.Readings.{decimal_of-decimal, decimal_of-ok}
use Rattle.decision_log.proofs.Grammar.{IsReader, IsWhole, bound}
use Rattle.decision_log.proofs.Hexes.{hex_of-decoded, hex_of-ok}

-- what was demanded was there
pub demanded : {A : Type 0} (fault : LineFault) (o : Option A) (a : A) → demand fault o ≡ Ok a → o ≡ Some a
demanded fault (Some x) a e = let same : x ≡ a = cc in ap (λ (y : _). Some y) same
demanded fault None a e = absurd cc

-- what stands under a test that passed
pub passed : {A : Type 0} (test : Bool) (made a : A) → then_some test made ≡ Some a → (test ≡ true) × (made ≡ a)
passed true made a e = (refl, cc)
passed false made a e = absurd cc

-- a digit is no end of a part
digits_one : (n : ℕ) → n < 10 → IsWhole ((48 + n) ∷ [])
digits_one n small = record { some = omega arith; none = grind (arith, nat_tests) }

digits_more : (n : ℕ) (digits : List ℕ) → IsWhole digits → IsWhole (digits ++ ((48 + n % 10) ∷ []))
digits_more n digits whole =
    let last : list_all (λ c. not (ends_part c)) ((48 + n % 10) ∷ []) ≡ true = grind (arith, nat_tests) in
    record {
      some = omega (arith, whole.some, length-append digits ((48 + n % 10) ∷ []));
      none = list_all-append (λ c. not (ends_part c)) digits ((48 + n % 10) ∷ []) ∙ and_from (list_all (λ c. not (ends_part c)) digits) (list_all (λ c. not (ends_part c)) ((48 + n % 10) ∷ [])) whole.none last;
    }

pub decimal_whole : (n : ℕ) → n < 2 ^ 64 → IsWhole (decimal n)
decimal_whole n small = decimal_by_steps (λ n digits. IsWhole digits) digits_one (λ n digits ten whole. digits_more n digits whole) n small

-- numbers below a limit
pub numbers : (limit : ℕ) → limit ≤ 2 ^ 64 → IsReader (number_below limit) decimal (λ n. n < limit)
numbers limit most = record {
  back = λ bytes a e.
      let found = bound (demand faults.Number (decimal_of bytes)) (λ number. demand faults.Number (then_some (ltb number limit) number)) a e in
      let told = decimal_of-ok bytes found.0 (demanded faults.Number (decimal_of bytes) found.0 found.1) in
      let under = passed (ltb found.0 limit) found.0 a (demanded faults.Number (then_some (ltb found.0 limit) found.0) a found.2) in
      (told.0 ∙ ap decimal under.1, subst (λ (n : ℕ). n < limit) under.1 (ltb-true found.0 limit under.0));
  forth = λ a below. rw (decimal_of-decimal a (omega (arith, below, most)), lt-ltb a limit below) refl;
  whole = λ a below. decimal_whole a (omega (arith, below, most));
}

-- a letter and a number
pub lettered_numbers : (letter : ℕ) → ends_part letter ≡ false → IsReader (lettered letter) (λ n. letter ∷ decimal n) (λ n. n < 2 ^ 32)
lettered_numbers letter plain = record {
  back = λ bytes a e. lettered_back letter bytes a e;
  forth = λ a below. ap (λ (b : Bool). cond b (number_below (2 ^ 32) (decimal a)) (Err faults.Word)) (same letter) ∙ (numbers (2 ^ 32) (lit≤ tt)).forth a below;
  whole = λ a below.
      let digits = (numbers (2 ^ 32) (lit≤ tt)).whole a below in
      record { some = omega arith; none = and_from (not (ends_part letter)) (list_all (λ c. not (ends_part c)) (decimal a)) (ap not plain) digits.none };
}
  where
    same : (n : ℕ) → eqb n n ≡ true
    same n = grind (arith, nat_tests)

    by_letter : (letter c : ℕ) (digits : List ℕ) (a : ℕ) (b : Bool) → eqb c letter ≡ b → cond b (number_below (2 ^ 32) digits) (Err faults.Word) ≡ Ok a → (c ∷ digits ≡ letter ∷ decimal a) × (a < 2 ^ 32)
    by_letter letter c digits a true t e = let told = (numbers (2 ^ 32) (lit≤ tt)).back digits a e in (ap (λ (n : ℕ). n ∷ digits) (eqb-true c letter t) ∙ ap (λ (x : List ℕ). letter ∷ x) told.0, told.1)
    by_letter letter c digits a false t e = absurd cc

    lettered_back : (letter : ℕ) (bytes : List ℕ) (a : ℕ) → lettered letter bytes ≡ Ok a → (bytes ≡ letter ∷ decimal a) × (a < 2 ^ 32)
    lettered_back letter [] a e = absurd cc
    lettered_back letter (c ∷ digits) a e = by_letter letter c digits a (eqb c letter) refl e

-- rules of low to high
pub rules : (low high : ℕ) → high < 2 ^ 8 → IsReader (rule_in low high) decimal (λ n. (low ≤ n) × (n ≤ high))
rules low high small = record {
  back = λ bytes a e.
      let found = bound (number_below (2 ^ 8) bytes) (λ rule. demand faults.Rule (then_some (leb low rule && leb rule high) rule)) a e in
      let told = (numbers (2 ^ 8) (lit≤ tt)).back bytes found.0 found.1 in
      let under = passed (leb low found.0 && leb found.0 high) found.0 a (demanded faults.Rule (then_some (leb low found.0 && leb found.0 high) found.0) a found.2) in
      let both = and_parts (leb low found.0) (leb found.0 high) under.0 in
      (told.0 ∙ ap decimal under.1, subst (λ (n : ℕ). (low ≤ n) × (n ≤ high)) under.1 (leb-true low found.0 both.0, leb-true found.0 high both.1));
  forth = λ a range. ap (λ (r : Result ℕ LineFault). r >>= (λ rule. demand faults.Rule (then_some (leb low rule && leb rule high) rule))) ((numbers (2 ^ 8) (lit≤ tt)).forth a (omega (arith, range.1, small))) ∙ rw (le-leb low a range.0, le-leb a high range.1) refl;
  whole = λ a range. (numbers (2 ^ 8) (lit≤ tt)).whole a (omega (arith, range.1, small));
}

-- a name has no byte that ends a part
begins_plain : (c : ℕ) → begins_name c ≡ true → not (ends_part c) ≡ true
begins_plain c e = grind (arith, nat_tests)

continues_plain : (cs : List ℕ) → list_all continues_name cs ≡ true → list_all (λ c. not (ends_part c)) cs ≡ true
continues_plain [] e = refl
continues_plain (c ∷ cs) e =
    let both = and_parts (continues_name c) (list_all continues_name cs) e in
    let here : not (ends_part c) ≡ true = let first = both.0 in grind (arith, nat_tests) in
    and_from (not (ends_part c)) (list_all (λ c. not (ends_part c)) cs) here (continues_plain cs both.1)

name_whole : (name : List ℕ) → is_name name ≡ true → IsWhole name
unfolding is_name
name_whole [] e = absurd cc
name_whole (c ∷ cs) e =
    let both = and_parts (leb (length (c ∷ cs)) 32 && begins_name c) (list_all continues_name cs) e in
    let first = and_parts (leb (length (c ∷ cs)) 32) (begins_name c) both.0 in
    record { some = omega arith; none = and_from (not (ends_part c)) (list_all (λ c. not (ends_part c)) cs) (begins_plain c first.1) (continues_plain cs both.1) }

-- users' names
pub names : IsReader name_in (λ name. name) (λ name. is_name name ≡ true)
names = record {
  back = λ bytes a e. let under = passed (is_name bytes) bytes a (demanded faults.Word (then_some (is_name bytes) bytes) a e) in (under.1, subst (λ (n : List ℕ). is_name n ≡ true) under.1 under.0);
  forth = λ a legal. rw legal refl;
  whole = λ a legal. name_whole a legal;
}

-- what all of some bytes pass, and 0, one of them passes
all_at : (p : ℕ → Bool) (xs : List ℕ) (k : ℕ) → p 0 ≡ true → list_all p xs ≡ true → p (slice_index xs k) ≡ true
all_at p [] k none e = none
all_at p (x ∷ xs) zero none e = (and_parts (p x) (list_all p xs) e).0
all_at p (x ∷ xs) (suc k) none e = all_at p xs k none (and_parts (p x) (list_all p xs) e).1

-- no hexadecimal digit ends a part
digit_plain : (d : ℕ) → not (ends_part (slice_index lower_digits d)) ≡ true
digit_plain d = all_at (λ c. not (ends_part c)) lower_digits d refl refl

hex_none : (bytes : List ℕ) → list_all (λ c. not (ends_part c)) (encode_lower bytes) ≡ true
unfolding encode_with
hex_none [] = refl
hex_none (b ∷ bytes) = and_from _ _ (digit_plain (b / 16)) (and_from _ _ (digit_plain (b % 16)) (hex_none bytes))

-- bytes in hexadecimal digits
pub hexes : (test : List ℕ → Bool) → ((bytes : List ℕ) → test bytes ≡ true → IsBytes bytes × (1 ≤ length bytes)) → IsReader (hex_in test) encode_lower (λ bytes. test bytes ≡ true)
hexes test fits = record {
  back = λ digits a e.
      let found = bound (demand faults.Hex (hex_of digits)) (λ bytes. demand faults.Hex (then_some (test bytes) bytes)) a e in
      let told = hex_of-ok digits found.0 (demanded faults.Hex (hex_of digits) found.0 found.1) in
      let under = passed (test found.0) found.0 a (demanded faults.Hex (then_some (test found.0) found.0) a found.2) in
      (sym told.1 ∙ ap encode_lower under.1, subst (λ (b : List ℕ). test b ≡ true) under.1 under.0);
  forth = λ a legal.
      let bytes = (fits a legal).0 in
      let spelled : bytes_eq (encode_lower a) (encode_lower a) ≡ true = (bytes_eq-Decides (encode_lower a) (encode_lower a)).1 refl in
      let read : hex_of (encode_lower a) ≡ Some a = hex_of-decoded (encode_lower a) a (decode_of-encode_lower a bytes) ∙ ap (λ (b : Bool). then_some b a) spelled in
      rw (read, legal) refl;
  whole = λ a legal. record { some = let long = length-encode_with lower_digits a in let few = (fits a legal).1 in omega (arith, long, few); none = hex_none a };
}

-- what all pass whose elements are bytes
all_bytes : (p : ℕ → Bool) → ((c : ℕ) → p c ≡ true → c < 256) → (bytes : List ℕ) → list_all p bytes ≡ true → (i : ℕ) → slice_index bytes i < 256
all_bytes p below [] e i = lit≤ tt
all_bytes p below (b ∷ bytes) e zero = below b (and_parts (p b) (list_all p bytes) e).0
all_bytes p below (b ∷ bytes) e (suc i) = all_bytes p below bytes (and_parts (p b) (list_all p bytes) e).1 i

-- a label is some bytes
label_fits : (bytes : List ℕ) → is_label bytes ≡ true → IsBytes bytes × (1 ≤ length bytes)
unfolding is_label
label_fits [] e = absurd cc
label_fits (c ∷ cs) e =
    let both = and_parts (leb (length (c ∷ cs)) 64 && is_ascii_lowercase c) (list_all continues_label cs) e in
    let first = and_parts (leb (length (c ∷ cs)) 64) (is_ascii_lowercase c) both.0 in
    (λ i. label_byte c cs first.1 both.1 i, omega arith)
  where
    label_byte : (c : ℕ) (cs : List ℕ) → is_ascii_lowercase c ≡ true → list_all continues_label cs ≡ true → (i : ℕ) → slice_index (c ∷ cs) i < 256
    label_byte c cs low all zero = grind (arith, nat_tests)
    label_byte c cs low all (suc i) = all_bytes continues_label (λ x h. grind (arith, nat_tests)) cs all i

-- a note is some bytes
note_fits : (bytes : List ℕ) → is_note bytes ≡ true → IsBytes bytes × (1 ≤ length bytes)
unfolding is_note
note_fits bytes e =
    let both = and_parts (leb 1 (length bytes) && leb (length bytes) 64) (list_all is_printable bytes) e in
    let first = and_parts (leb 1 (length bytes)) (leb (length bytes) 64) both.0 in
    (all_bytes is_printable (λ x h. grind (arith, nat_tests)) bytes both.1, leb-true 1 (length bytes) first.0)

pub labels : IsReader (hex_in is_label) encode_lower (λ bytes. is_label bytes ≡ true)
labels = hexes is_label label_fits

pub notes : IsReader (hex_in is_note) encode_lower (λ bytes. is_note bytes ≡ true)
notes = hexes is_note note_fits

same_ok : (x a : ℕ) → ◌≡◌ {A = Result ℕ LineFault} (Ok x) (Ok a) → x ≡ a
same_ok x a e = cc

below_word : (bytes : List ℕ) → IsBytes bytes → from_be_bytes w64 bytes < 2 ^ 64
below_word bytes fits = omega (arith, fits 0, fits 1, fits 2, fits 3, fits 4, fits 5, fits 6, fits 7)

word_bytes : (a : ℕ) → IsBytes (to_be_bytes w64 a)
word_bytes a = all_bytes (λ c. ltb c 256) (λ c h. ltb-true c 256 h) (to_be_bytes w64 a) (grind (arith, nat_tests))

password_forth : (a : ℕ) → a < 2 ^ 64 → password_in (encode_lower (to_be_bytes w64 a)) ≡ Ok a
password_forth a small =
    let bytes = to_be_bytes w64 a in
    let spelled : bytes_eq (encode_lower bytes) (encode_lower bytes) ≡ true = (bytes_eq-Decides (encode_lower bytes) (encode_lower bytes)).1 refl in
    let read : hex_of (encode_lower bytes) ≡ Some bytes = hex_of-decoded (encode_lower bytes) bytes (decode_of-encode_lower bytes (word_bytes a)) ∙ ap (λ (b : Bool). then_some b bytes) spelled in
    ap (λ (o : Option (List ℕ)). (demand faults.Hex o >>= (λ x. demand faults.Hex (then_some (length x == 8) x))) >>= (λ x. Ok (from_be_bytes w64 x))) read
    ∙ ap (λ (n : ℕ). Ok n) (from_be_bytes-to_be_bytes_8 a small)

-- passwords
pub passwords : IsReader password_in (λ n. encode_lower (to_be_bytes w64 n)) (λ n. n < 2 ^ 64)
passwords = record {
  back = λ digits a e.
      let found = bound (hex_in (λ b. length b == 8) digits) (λ bytes. Ok (from_be_bytes w64 bytes)) a e in
      let read = bound (demand faults.Hex (hex_of digits)) (λ bytes. demand faults.Hex (then_some (length bytes == 8) bytes)) found.0 found.1 in
      let told = hex_of-ok digits read.0 (demanded faults.Hex (hex_of digits) read.0 read.1) in
      let under = passed (length read.0 == 8) read.0 found.0 (demanded faults.Hex (then_some (length read.0 == 8) read.0) found.0 read.2) in
      let bytes = (decode_of-ok digits read.0 told.0).3 in
      let value : from_be_bytes w64 read.0 ≡ a = ap (from_be_bytes w64) under.1 ∙ same_ok (from_be_bytes w64 found.0) a found.2 in
      let back : to_be_bytes w64 a ≡ read.0 = be_bytes_8 read.0 a (eqb-true (length read.0) 8 under.0) bytes (sym value) in
      (sym told.1 ∙ ap encode_lower (sym back), subst (λ (n : ℕ). n < 2 ^ 64) value (below_word read.0 bytes));
  forth = λ a small. password_forth a small;
  whole = λ a small. record { some = omega (arith, length-encode_with lower_digits (to_be_bytes w64 a)); none = hex_none (to_be_bytes w64 a) };
}

-- words by a table
named : {W : Type 0} (text : W → List ℕ) (words : List W) (bytes : List ℕ) (w : W) → find (λ x. bytes_eq (text x) bytes) words ≡ Some w → bytes ≡ text w
named text [] bytes w e = absurd cc
named text (x ∷ words) bytes w e = first (bytes_eq (text x) bytes) refl e (named text words bytes w)
  where
    first : (b : Bool) → bytes_eq (text x) bytes ≡ b → cond b (Some x) (find (λ y. bytes_eq (text y) bytes) words) ≡ Some w → (find (λ y. bytes_eq (text y) bytes) words ≡ Some w → bytes ≡ text w) → bytes ≡ text w
    first true t h rest = let same : x ≡ w = cc in sym ((bytes_eq-Decides (text x) bytes).0 t) ∙ ap text same
    first false t h rest = rest h

pub ask_word_reader : IsReader ask_word_in ask_word (λ w. Unit {0})
unfolding ask_word ask_words
ask_word_reader = record {
  back = λ bytes w e. (named ask_word ask_words bytes w (demanded faults.Word (find (λ x. bytes_eq (ask_word x) bytes) ask_words) w e), tt);
  forth = λ w range. ask_word_forth w;
  whole = λ w range. ask_word_whole w;
}
  where
    ask_word_forth : (w : AskWord) → ask_word_in (ask_word w) ≡ Ok w
    ask_word_forth ask_.Open = refl
    ask_word_forth _ = refl

    ask_word_whole : (w : AskWord) → IsWhole (ask_word w)
    ask_word_whole ask_.Open = record { some = lit≤ tt; none = refl }
    ask_word_whole _ = record { some = lit≤ tt; none = refl }

pub decision_word_reader : IsReader decision_word_in decision_word (λ w. Unit {0})
unfolding decision_word decision_words
decision_word_reader = record {
  back = λ bytes w e. (named decision_word decision_words bytes w (demanded faults.Word (find (λ x. bytes_eq (decision_word x) bytes) decision_words) w e), tt);
  forth = λ w range. decision_word_forth w;
  whole = λ w range. decision_word_whole w;
}
  where
    decision_word_forth : (w : DecisionWord) → decision_word_in (decision_word w) ≡ Ok w
    decision_word_forth decision_.Permit = refl
    decision_word_forth _ = refl

    decision_word_whole : (w : DecisionWord) → IsWhole (decision_word w)
    decision_word_whole decision_.Permit = record { some = lit≤ tt; none = refl }
    decision_word_whole _ = record { some = lit≤ tt; none = refl }

pub why_word_reader : IsReader why_word_in why_word (λ w. Unit {0})
unfolding why_word why_words
why_word_reader = record {
  back = λ bytes w e. (named why_word why_words bytes w (demanded faults.Word (find (λ x. bytes_eq (why_word x) bytes) why_words) w e), tt);
  forth = λ w range. why_word_forth w;
  whole = λ w range. why_word_whole w;
}
  where
    why_word_forth : (w : WhyWord) → why_word_in (why_word w) ≡ Ok w
    why_word_forth why_.Finished = refl
    why_word_forth _ = refl

    why_word_whole : (w : WhyWord) → IsWhole (why_word w)
    why_word_whole why_.Finished = record { some = lit≤ tt; none = refl }
    why_word_whole _ = record { some = lit≤ tt; none = refl }
