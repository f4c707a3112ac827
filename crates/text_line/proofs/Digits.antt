-- The digits of a text, one after the other.
use Rattle.std.proofs.Common.{◌≡◌, ℕ, ◌+◌, ◌^◌, ◌<◌, ◌≤◌, Bool, true, false, ◌&&◌, List, [], ◌∷◌, ◌++◌, length, take, get_or, rules, refl, ap, subst}
use Rattle.std.specs.Char.{digit_value, is_ascii_digit}
use Rattle.std.specs.Str.{all_ascii_digits}
use Rattle.std.specs.Str.Parse.{AllDigits, digits_value}
use Rattle.std.proofs.lemmas.Int.Digits.{digits_more, digits_value_more}
use Rattle.std.proofs.lemmas.Str.{digit_value_digit}
use Rattle.std.proofs.lemmas.Str.Parse.{IsNumeralModel, numerals_by_value, tells_digits, tells_all_ascii_digits, digits_value_short, digit_at}
use Rattle.std.proofs.lemmas.List.{take_all}

-- what the test of digits and their value are to std's lemmas
pub digits_told : IsNumeralModel (λ ds. all_ascii_digits ds ≡ true) (digits_value 10)
digits_told = numerals_by_value _ tells_all_ascii_digits

-- the digits in front of one of the first 19
pub front_fits : (ds : List ℕ) (i : ℕ) → i < length ds → length ds ≤ 19 → AllDigits 10 (take i ds) → digits_value 10 (take i ds) < 10 ^ 18
front_fits ds i at few all = digits_value_short (numerals_by_value _ tells_digits) (take i ds) 18 all (search rules)

-- a digit is below ten
pub digit_small : (c : ℕ) → is_ascii_digit c ≡ true → digit_value c < 10
digit_small c is = search (rules, digit_value_digit c)

-- one digit more
pub digits_on : (ds : List ℕ) (i : ℕ) → i < length ds → AllDigits 10 (take i ds) → is_ascii_digit (get_or ds i 0) ≡ true → AllDigits 10 (take (i + 1) ds)
digits_on ds i at all is = digits_more 10 ds i at all (digit_small (get_or ds i 0) is)

-- all of them
pub digits_whole : (ds : List ℕ) (i : ℕ) → length ds ≤ i → AllDigits 10 (take i ds) → all_ascii_digits ds ≡ true
digits_whole ds i at all = digits_told.from ds (subst (AllDigits 10) (take_all i ds at) all)

pub value_whole : (ds : List ℕ) (i : ℕ) → length ds ≤ i → digits_value 10 (take i ds) ≡ digits_value 10 ds
value_whole ds i at = ap (digits_value 10) (take_all i ds at)

-- a byte that is no digit
pub digits_none : (ds : List ℕ) (i : ℕ) → i < length ds → is_ascii_digit (get_or ds i 0) ≡ false → all_ascii_digits ds ≡ false
digits_none ds i at other = by_told (all_ascii_digits ds) refl where
  by_told : (told : Bool) → all_ascii_digits ds ≡ told → all_ascii_digits ds ≡ false
  by_told false e = e
  by_told true e = let digit = digit_at ds i (digits_told.to ds e) at in search (rules, digit)

-- one byte more is a digit too
pub digits_push : (ds : List ℕ) (c : ℕ) → all_ascii_digits (ds ++ (c ∷ [])) ≡ (all_ascii_digits ds && is_ascii_digit c)
digits_push [] c = search rules
digits_push (d ∷ ds) c = let rest = digits_push ds c in search (rules, rest)

pub ruleset digits = (front_fits, digit_small, digits_value_more, digits_on, digits_whole, value_whole, digits_none)
