-- Numbers in decimal digits.
use Rattle.std.proofs.Common.{◌≡◌, ℕ, ◌+◌, ◌*◌, ◌^◌, ◌<◌, ◌≤◌, Bool, true, false, leb, ltb, ◌&&◌, List, [], ◌∷◌, ◌++◌, length, get_or, take, ◌-◌, ◌≢◌, zero, suc, Option, Some, None, refl, sym, ap, subst, ◌∙◌, arith}
use Rattle.std.specs.Bool.{then_some}
use Rattle.std.specs.Char.{digit_value, is_ascii_digit}
use Rattle.std.specs.Fmt.{decimal}
use Rattle.std.specs.Str.{all_ascii_digits, bytes_eq}
use Rattle.std.specs.Str.Parse.{digits_value}
use Rattle.std.proofs.lemmas.Bool.{and_parts, ltb-true, lt-ltb, le-leb}
use Rattle.std.proofs.lemmas.Fmt.{decimal-digits_value, decimal_is_IsNumeral, decimal_nonempty, digits_decimal, digits_value-decimal, first_decimal}
use Rattle.std.proofs.lemmas.Int.Digits.{digits_value_push}
use Rattle.std.proofs.Math.Nat.{zero-add}
use Rattle.std.proofs.lemmas.List.{length-take-le, take_all, take_more}
use Rattle.text_line.proofs.Decimals.{length-decimal-word, length-decimal_digit}
use Rattle.text_line.proofs.Digits.{digit_small, digits_told, digits_push}
use Rattle.std.proofs.lemmas.Slice.Eq.{bytes_eq-Decides}
use Rattle.text_line.specs.Reading.{decimal_of}

-- what stands under a test that passed
passed : (test : Bool) (made n : ℕ) → then_some test made ≡ Some n → (test ≡ true) × (made ≡ n)
passed true made n e = (refl, cc)
passed false made n e = absurd cc

-- what is read is spelled so
pub decimal_of-ok : (text : List ℕ) (n : ℕ) → decimal_of text ≡ Some n → (text ≡ decimal n) × (n < 2 ^ 64)
unfolding decimal_of
decimal_of-ok text n e =
    let v = digits_value 10 text in
    let told = passed (bytes_eq text (decimal v) && ltb v (2 ^ 64)) v n e in
    let both = and_parts (bytes_eq text (decimal v)) (ltb v (2 ^ 64)) told.0 in
    ((bytes_eq-Decides text (decimal v)).0 both.0 ∙ ap decimal told.1, subst (λ (m : ℕ). m < 2 ^ 64) told.1 (ltb-true v (2 ^ 64) both.1))

-- what is spelled is read
pub decimal_of-decimal : (n : ℕ) → n < 2 ^ 64 → decimal_of (decimal n) ≡ Some n
unfolding decimal_of
decimal_of-decimal n small =
    let same : digits_value 10 (decimal n) ≡ n = (decimal_is_IsNumeral n small).1 in
    let spelled : bytes_eq (decimal n) (decimal n) ≡ true = (bytes_eq-Decides (decimal n) (decimal n)).1 refl in
    let below : ltb n (2 ^ 64) ≡ true = lt-ltb n (2 ^ 64) small in
    rw (same, spelled, below) refl

-- by whether it is read
by_read : (text : List ℕ) (o : Option ℕ) → decimal_of text ≡ o → ((n : ℕ) → n < 2 ^ 64 → text ≡ decimal n → ⊥) → decimal_of text ≡ None
by_read text None e none = e
by_read text (Some n) e none = let told = decimal_of-ok text n e in absurd (none n told.1 told.0)

-- what no number is written as is none
pub decimal_of-none : (text : List ℕ) → ((n : ℕ) → n < 2 ^ 64 → text ≡ decimal n → ⊥) → decimal_of text ≡ None
decimal_of-none text none = by_read text (decimal_of text) refl none

-- digits without a leading zero are read as the number that they make
pub decimal_of-digits : (text : List ℕ) → 0 < length text → (get_or text 0 0 ≡ 48 → length text ≡ 1) → then_some (all_ascii_digits text && ltb (digits_value 10 text) (2 ^ 64)) (digits_value 10 text) ≡ decimal_of text
decimal_of-digits text some alone = by_test (all_ascii_digits text && ltb (digits_value 10 text) (2 ^ 64)) refl where
  by_test : (test : Bool) → (all_ascii_digits text && ltb (digits_value 10 text) (2 ^ 64)) ≡ test → then_some test (digits_value 10 text) ≡ decimal_of text
  by_test true e =
      let both = and_parts (all_ascii_digits text) (ltb (digits_value 10 text) (2 ^ 64)) e in
      let small = ltb-true (digits_value 10 text) (2 ^ 64) both.1 in
      let spelled : decimal (digits_value 10 text) ≡ text = decimal-digits_value digits_told text both.0 some alone small in
      sym (ap decimal_of (sym spelled) ∙ decimal_of-decimal (digits_value 10 text) small)
  by_test false e = sym (decimal_of-none text (λ n small is.
      let all : all_ascii_digits text ≡ true = subst (λ ds. all_ascii_digits ds ≡ true) (sym is) (digits_decimal digits_told n small) in
      let value : digits_value 10 text ≡ n = ap (digits_value 10) is ∙ digits_value-decimal digits_told n small in
      let below : ltb (digits_value 10 text) (2 ^ 64) ≡ true = lt-ltb (digits_value 10 text) (2 ^ 64) (omega (arith, value, small)) in
      cc))

-- an empty text is no number
pub decimal_of-empty : (text : List ℕ) → length text < 1 → decimal_of text ≡ None
decimal_of-empty text empty = decimal_of-none text (λ n small is. let some = decimal_nonempty n small in let none = ap length is in omega (arith, empty, some, none))

-- nor is a zero with a byte after it
pub decimal_of-zero : (text : List ℕ) → 2 ≤ length text → get_or text 0 0 ≡ 48 → decimal_of text ≡ None
decimal_of-zero text more first_is = decimal_of-none text by_least where
  by_least : (n : ℕ) → n < 2 ^ 64 → text ≡ decimal n → ⊥
  by_least zero small is = let same = ap length is ∙ length-decimal_digit 0 (omega arith) in omega (arith, more, same)
  by_least (suc n) small is = let first = first_decimal (suc n) (omega arith) small in let same = ap (λ ds. get_or ds 0 0) is in omega (arith, first, first_is, same)

-- one byte is the number of its digit
pub decimal_of-digit : (text : List ℕ) → 1 ≤ length text → length text < 2 → then_some (is_ascii_digit (get_or text 0 0)) (digit_value (get_or text 0 0)) ≡ decimal_of text
decimal_of-digit [] some one = absurd (omega (arith, some))
decimal_of-digit (c ∷ d ∷ text) some one = absurd (omega (arith, one))
decimal_of-digit (c ∷ []) some one = by_told (is_ascii_digit c) refl where
  value : digits_value 10 (c ∷ []) ≡ digit_value c
  value = digits_value_push 10 [] c ∙ zero-add (digit_value c)

  read : then_some (all_ascii_digits (c ∷ []) && ltb (digits_value 10 (c ∷ [])) (2 ^ 64)) (digits_value 10 (c ∷ [])) ≡ decimal_of (c ∷ [])
  read = decimal_of-digits (c ∷ []) (omega arith) (λ first. refl)

  by_told : (told : Bool) → is_ascii_digit c ≡ told → then_some told (digit_value c) ≡ decimal_of (c ∷ [])
  by_told true e =
      let test : (all_ascii_digits (c ∷ []) && ltb (digits_value 10 (c ∷ [])) (2 ^ 64)) ≡ true = rw (e, lt-ltb (digits_value 10 (c ∷ [])) (2 ^ 64) (omega (arith, value, digit_small c e))) refl in
      ap Some (sym value) ∙ subst (λ (b : Bool). then_some b (digits_value 10 (c ∷ [])) ≡ decimal_of (c ∷ [])) test read
  by_told false e =
      let test : (all_ascii_digits (c ∷ []) && ltb (digits_value 10 (c ∷ [])) (2 ^ 64)) ≡ false = rw e refl in
      subst (λ (b : Bool). then_some b (digits_value 10 (c ∷ [])) ≡ decimal_of (c ∷ [])) test read

-- the front and the last byte
parted : (text : List ℕ) → 1 ≤ length text → take (length text - 1) text ++ (get_or text (length text - 1) 0 ∷ []) ≡ text
parted text some = sym (take_more text (length text - 1) 0 (omega (arith, some))) ∙ take_all (length text - 1 + 1) text (omega arith)

-- bytes after a front that isn't all digits or is longer than 19 make no number
pub decimal_of-front : (text : List ℕ) → 1 ≤ length text → (all_ascii_digits (take (length text - 1) text) && leb (length (take (length text - 1) text)) 19) ≡ false → decimal_of text ≡ None
decimal_of-front text some other = decimal_of-none text (λ n small is.
    let front = take (length text - 1) text in
    let last = get_or text (length text - 1) 0 in
    let all : all_ascii_digits text ≡ true = subst (λ ds. all_ascii_digits ds ≡ true) (sym is) (digits_decimal digits_told n small) in
    let told : all_ascii_digits front ≡ true = (and_parts (all_ascii_digits front) (is_ascii_digit last) (sym (digits_push front last) ∙ ap all_ascii_digits (parted text some) ∙ all)).0 in
    let most = length-decimal-word n small in
    let same = ap length is in
    let len = length-take-le (length text - 1) text (omega arith) in
    let few : leb (length front) 19 ≡ true = le-leb (length front) 19 (omega (arith, most, len, same)) in
    cc)

-- a front of digits and one byte more
pub decimal_of-joined : (text : List ℕ) → 2 ≤ length text → get_or text 0 0 ≢ 48 → all_ascii_digits (take (length text - 1) text) ≡ true
    → then_some (is_ascii_digit (get_or text (length text - 1) 0) && ltb (digits_value 10 (take (length text - 1) text) * 10 + digit_value (get_or text (length text - 1) 0)) (2 ^ 64)) (digits_value 10 (take (length text - 1) text) * 10 + digit_value (get_or text (length text - 1) 0)) ≡ decimal_of text
decimal_of-joined text more first all =
    let front = take (length text - 1) text in
    let last = get_or text (length text - 1) 0 in
    let whole = parted text (omega (arith, more)) in
    let told : all_ascii_digits text ≡ is_ascii_digit last = sym (ap all_ascii_digits whole) ∙ rw (digits_push front last, all) refl in
    let value : digits_value 10 text ≡ digits_value 10 front * 10 + digit_value last = sym (ap (digits_value 10) whole) ∙ digits_value_push 10 front last in
    let read = decimal_of-digits text (omega (arith, more)) (λ zero. absurd (first zero)) in
    subst (λ (v : ℕ). then_some (is_ascii_digit last && ltb v (2 ^ 64)) v ≡ decimal_of text) value
    (subst (λ (b : Bool). then_some (b && ltb (digits_value 10 text) (2 ^ 64)) (digits_value 10 text) ≡ decimal_of text) told read)

pub ruleset readings = (decimal_of-empty, decimal_of-zero, decimal_of-digit, decimal_of-front, decimal_of-joined)
