-- The decimal digits of a number, one after the other.
use Rattle.std.proofs.Common.{◌≡◌, ℕ, ◌+◌, ◌-◌, ◌/◌, ◌%◌, ◌^◌, ◌<◌, ◌≤◌, List, [], ◌∷◌, ◌++◌, length, take, drop, slice_set, ap, sym, ◌∙◌, append_assoc, arith}
use Rattle.std.proofs.lemmas.List.{drop-set, length-append, length-drop, length-set, take_all}
use Rattle.std.proofs.lemmas.Fmt.{decimal_digit, decimal_step, length-decimal-le}
use Rattle.std.specs.Fmt.{decimal}

-- one digit more than those of a tenth
pub length-decimal_step : (n : ℕ) → 10 ≤ n → n < 2 ^ 64 → length (decimal n) ≡ length (decimal (n / 10)) + 1
length-decimal_step n ge lt = ap length (decimal_step n ge lt) ∙ length-append (decimal (n / 10)) ((48 + n % 10) ∷ [])

pub length-decimal_digit : (n : ℕ) → n < 10 → length (decimal n) ≡ 1
length-decimal_digit n lt = ap length (decimal_digit n lt)

-- the digit before those that were found
pub next_digit : (digits : List ℕ) (number left start : ℕ) → 10 ≤ left → left < 2 ^ 64 → 1 ≤ start → start < length digits → decimal number ≡ decimal left ++ drop (start + 1) digits → decimal number ≡ decimal (left / 10) ++ drop (start - 1 + 1) (slice_set digits start (48 + left % 10))
next_digit digits number left start ge small one within is =
    let digit = 48 + left % 10 in
    let place : start ≡ start - 1 + 1 = omega (arith, one) in
    is ∙ ap (λ xs. xs ++ drop (start + 1) digits) (decimal_step left ge small)
    ∙ append_assoc (decimal (left / 10)) (digit ∷ []) (drop (start + 1) digits)
    ∙ ap (λ xs. decimal (left / 10) ++ xs) (sym (drop-set digits start digit within))
    ∙ ap (λ (n : ℕ). decimal (left / 10) ++ drop n (slice_set digits start digit)) place

-- the first digit, and all that were found after it
pub first_digit : (digits : List ℕ) (size number left start : ℕ) → left < 10 → length digits ≡ size → start < size → decimal number ≡ decimal left ++ drop (start + 1) digits → take (size - start) (drop start (slice_set digits start (48 + left))) ≡ decimal number
first_digit digits size number left start lt sized within is =
    let found = slice_set digits start (48 + left) in
    let len : length (drop start found) ≡ size - start = length-drop start found ∙ ap (λ (n : ℕ). n - start) (length-set digits start (48 + left) ∙ sized) in
    take_all (size - start) (drop start found) (omega (arith, len))
    ∙ drop-set digits start (48 + left) (omega (arith, within, sized))
    ∙ sym (is ∙ ap (λ xs. xs ++ drop (start + 1) digits) (decimal_digit left lt))

-- a number of 64 bits has at most 20 digits
pub length-decimal-word : (n : ℕ) → n < 2 ^ 64 → length (decimal n) ≤ 20
length-decimal-word n lt = length-decimal-le 20 n (omega arith) (omega arith) lt

-- a number of 32 bits has at most 10
pub length-decimal-number : (n : ℕ) → n < 2 ^ 32 → length (decimal n) ≤ 10
length-decimal-number n lt = length-decimal-le 10 n (omega arith) (omega arith) (omega arith)

pub ruleset decimals = (decimal_digit, decimal_step, length-decimal_step, length-decimal_digit, length-decimal-word, length-decimal-number)
