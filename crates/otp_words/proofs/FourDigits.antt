-- A number below 10,000 by its four digits.
use Rattle.std.proofs.Common.{◌≡◌, ℕ, ◌+◌, ◌/◌, ◌%◌, ◌<◌, ◌≤◌, List, [], ◌∷◌, ◌++◌, drop, sym, ap, ◌∙◌, arith, inl, inr}
use Rattle.std.specs.Fmt.{decimal}
use Rattle.std.proofs.lemmas.Bool.{cases_lt}
use Rattle.std.proofs.lemmas.Bool.Decides.{nat_tests}
use Rattle.std.proofs.lemmas.Fmt.{decimal_digit, decimal_step}
use Rattle.otp_words.specs.Inner.{four_digits, leading_zeros}

-- the digits after the leading zeros
abbrev pub short_digits : ℕ → List ℕ
short_digits n = drop (leading_zeros n) (four_digits n)

-- the zeros before a number's first digit
pub zeros_three : (n : ℕ) → n < 10 → leading_zeros n ≡ 3
zeros_three n small = grind (arith, nat_tests)

pub zeros_two : (n : ℕ) → 10 ≤ n → n < 100 → leading_zeros n ≡ 2
zeros_two n some small = grind (arith, nat_tests)

pub zeros_one : (n : ℕ) → 100 ≤ n → n < 1000 → leading_zeros n ≡ 1
zeros_one n some small = grind (arith, nat_tests)

pub zeros_none : (n : ℕ) → 1000 ≤ n → leading_zeros n ≡ 0
zeros_none n some = grind (arith, nat_tests)

-- the decimal digits of numbers of two to four digits
decimal_two : (n : ℕ) → 10 ≤ n → n < 100 → decimal n ≡ (48 + n / 10) ∷ (48 + n % 10) ∷ []
decimal_two n some small =
    decimal_step n some (omega arith) ∙ ap (λ (ds : List ℕ). ds ++ (48 + n % 10) ∷ []) (decimal_digit (n / 10) (omega arith))

decimal_three : (n : ℕ) → 100 ≤ n → n < 1000 → decimal n ≡ (48 + n / 10 / 10) ∷ (48 + n / 10 % 10) ∷ (48 + n % 10) ∷ []
decimal_three n some small =
    decimal_step n (omega arith) (omega arith) ∙ ap (λ (ds : List ℕ). ds ++ (48 + n % 10) ∷ []) (decimal_two (n / 10) (omega arith) (omega arith))

decimal_four : (n : ℕ) → 1000 ≤ n → n ≤ 9999 → decimal n ≡ (48 + n / 10 / 10 / 10) ∷ (48 + n / 10 / 10 % 10) ∷ (48 + n / 10 % 10) ∷ (48 + n % 10) ∷ []
decimal_four n some small =
    decimal_step n (omega arith) (omega arith) ∙ ap (λ (ds : List ℕ). ds ++ (48 + n % 10) ∷ []) (decimal_three (n / 10) (omega arith) (omega arith))

-- the same digits by how many zeros are dropped
by_zeros : (n count : ℕ) → leading_zeros n ≡ count → drop count (four_digits n) ≡ decimal n → short_digits n ≡ decimal n
by_zeros n count e same = ap (λ (z : ℕ). drop z (four_digits n)) e ∙ same

one : (n : ℕ) → n < 10 → drop 3 (four_digits n) ≡ decimal n
one n small =
    let last : n % 10 ≡ n = omega arith in
    ap (λ (d : ℕ). (48 + d) ∷ []) last ∙ sym (decimal_digit n small)

two : (n : ℕ) → 10 ≤ n → n < 100 → drop 2 (four_digits n) ≡ decimal n
two n some small =
    let first : n / 10 % 10 ≡ n / 10 = omega arith in
    ap (λ (d : ℕ). (48 + d) ∷ (48 + n % 10) ∷ []) first ∙ sym (decimal_two n some small)

three : (n : ℕ) → 100 ≤ n → n < 1000 → drop 1 (four_digits n) ≡ decimal n
three n some small =
    let first : n / 100 % 10 ≡ n / 10 / 10 = omega arith in
    ap (λ (d : ℕ). (48 + d) ∷ (48 + n / 10 % 10) ∷ (48 + n % 10) ∷ []) first ∙ sym (decimal_three n some small)

four : (n : ℕ) → 1000 ≤ n → n ≤ 9999 → drop 0 (four_digits n) ≡ decimal n
four n some small =
    let first : n / 1000 ≡ n / 10 / 10 / 10 = omega arith in
    let second : n / 100 % 10 ≡ n / 10 / 10 % 10 = omega arith in
    ap (λ (d : ℕ). (48 + d) ∷ (48 + n / 100 % 10) ∷ (48 + n / 10 % 10) ∷ (48 + n % 10) ∷ []) first
    ∙ ap (λ (d : ℕ). (48 + n / 10 / 10 / 10) ∷ (48 + d) ∷ (48 + n / 10 % 10) ∷ (48 + n % 10) ∷ []) second
    ∙ sym (decimal_four n some small)

-- they are the number's decimal digits
pub short_digits-decimal : (n : ℕ) → n ≤ 9999 → short_digits n ≡ decimal n
short_digits-decimal n small =
    elim (cases_lt n 10) [
      | inl lt ↦ by_zeros n 3 (zeros_three n lt) (one n lt)
      | inr ten ↦ elim (cases_lt n 100) [
        | inl lt ↦ by_zeros n 2 (zeros_two n ten lt) (two n ten lt)
        | inr hundred ↦ elim (cases_lt n 1000) [
          | inl lt ↦ by_zeros n 1 (zeros_one n hundred lt) (three n hundred lt)
          | inr thousand ↦ by_zeros n 0 (zeros_none n thousand) (four n thousand small)
        ]
      ]
    ]
