-- A number is read back from its digits.
use Rattle.std.proofs.Common.{◌≡◌, ℕ, zero, suc, ◌+◌, ◌*◌, ◌/◌, ◌%◌, ◌^◌, ◌<◌, ◌≤◌, refl, ◌∙◌, arith, List, length, get_or, drop, drop-cons, add-one}
use Rattle.std.specs.Prelude.{fold}
use Rattle.std.proofs.lemmas.Nat.{pow-add, mod-pow-add}
use Rattle.std.proofs.Math.Nat.{mod-eq_of_lt, mod-one, mul-le-mul_right}
use Rattle.std.proofs.Math.Pow.{pow_mono}
use Rattle.otp_words.specs.Digits.{digits_of, number_of}

-- the digits after a number
fold-digits_of : (width count n front : ℕ) → fold (λ number digit. number * 2 ^ width + digit) front (digits_of width count n) ≡ front * 2 ^ (width * count) + n % 2 ^ (width * count)
fold-digits_of width zero n front =
    let none : width * 0 ≡ 0 = omega arith in
    rw (none, mod-one n) (omega arith)
fold-digits_of width (suc count) n front =
    let more : width * suc count ≡ width + width * count = omega arith in
    rw (fold-digits_of width count n (front * 2 ^ width + n / 2 ^ (width * count) % 2 ^ width), more, mod-pow-add n width (width * count), pow-add 2 width (width * count)) (omega arith)

-- a number is read back from enough of its digits
pub number_of-digits_of : (width count n : ℕ) → n < 2 ^ (width * count) → number_of width (digits_of width count n) ≡ n
number_of-digits_of width count n small = fold-digits_of width count n 0 ∙ rw (mod-eq_of_lt small) (omega arith)

-- a number with one digit more
pub number_more : (width count number digit : ℕ) → number < 2 ^ (width * count) → digit < 2 ^ width → number * 2 ^ width + digit < 2 ^ (width * (count + 1))
number_more width count number digit small low =
    let e : width * (count + 1) ≡ width * count + width = omega arith in
    let up : number + 1 ≤ 2 ^ (width * count) = omega arith in
    let room : (number + 1) * 2 ^ width ≤ 2 ^ (width * count) * 2 ^ width = mul-le-mul_right (2 ^ width) up in
    rw (e, pow-add 2 (width * count) width) (omega arith)

-- a number with one digit more fits where there is room
pub number_fits : (width count bits number digit : ℕ) → width * (count + 1) ≤ bits → number < 2 ^ (width * count) → digit < 2 ^ width → number * 2 ^ width + digit < 2 ^ bits
number_fits width count bits number digit room small low =
    let most : 2 ^ (width * (count + 1)) ≤ 2 ^ bits = pow_mono {i = width * (count + 1)} {j = bits} room in
    omega (arith, most, number_more width count number digit small low)

-- the digit at a place is taken into the number
pub fold_more : (width number digit i : ℕ) (places : List ℕ) → i < length places → digit ≡ get_or places i 0 → fold (λ number digit. number * 2 ^ width + digit) (number * 2 ^ width + digit) (drop (i + 1) places) ≡ fold (λ number digit. number * 2 ^ width + digit) number (drop i places)
fold_more width number digit i places lt e = rw (e, add-one i, drop-cons places i 0) refl
