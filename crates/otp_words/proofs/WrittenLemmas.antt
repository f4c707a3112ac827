-- A challenge that is written is read.
use Rattle.std.proofs.Common.{◌≡◌, ℕ, ◌+◌, ◌/◌, ◌%◌, ◌<◌, ◌≤◌, true, List, [], ◌∷◌, ◌++◌, length, map, drop, refl, sym, subst, arith, ◌&&◌, inl, inr, append_assoc, length-append}
use Rattle.std.specs.Prelude.{nat_le}
use Rattle.std.specs.Char.{is_ascii_digit, is_ascii_alphanumeric, to_ascii_lowercase}
use Rattle.std.specs.List.{list_all}
use Rattle.std.proofs.lemmas.Bool.{and_parts, and_from, cases_lt}
use Rattle.std.proofs.lemmas.Bool.Decides.{nat_tests}
use Rattle.std.proofs.lemmas.Nat.{mod_below}
use Rattle.otp_hash.specs.declared.chain.Algo.{Algo}
use Rattle.otp_hash.specs.Seeds.{is_seed_text, is_seed, is_seed_byte}
use Rattle.std.specs.Fmt.{decimal}
use Rattle.otp_words.specs.Challenges.{challenge_of, IsNumber, BeginsWithChallenge}
use Rattle.otp_words.specs.Inner.{four_digits, leading_zeros}
use Rattle.otp_words.proofs.FourDigits.{short_digits, short_digits-decimal, zeros_none, zeros_one, zeros_three, zeros_two}

-- a decimal digit that is written
digit_legal : (d : ℕ) → d < 10 → is_ascii_digit (48 + d) ≡ true
digit_legal d small = grind (arith, nat_tests)

-- numbers of one to four digits
one_digit : (n : ℕ) → n < 10 → IsNumber (drop 3 (four_digits n)) n
one_digit n small = record {
  legal = rw (digit_legal (n % 10) (mod_below n 10 (omega arith))) refl;
  value = omega arith;
}

two_digits : (n : ℕ) → n < 100 → IsNumber (drop 2 (four_digits n)) n
two_digits n small = record {
  legal = rw (digit_legal (n / 10 % 10) (mod_below (n / 10) 10 (omega arith)), digit_legal (n % 10) (mod_below n 10 (omega arith))) refl;
  value = omega arith;
}

three_digits : (n : ℕ) → n < 1000 → IsNumber (drop 1 (four_digits n)) n
three_digits n small = record {
  legal = rw (digit_legal (n / 100 % 10) (mod_below (n / 100) 10 (omega arith)), digit_legal (n / 10 % 10) (mod_below (n / 10) 10 (omega arith)), digit_legal (n % 10) (mod_below n 10 (omega arith))) refl;
  value = omega arith;
}

all_digits : (n : ℕ) → n ≤ 9999 → IsNumber (drop 0 (four_digits n)) n
all_digits n small = record {
  legal = rw (digit_legal (n / 1000) (omega arith), digit_legal (n / 100 % 10) (mod_below (n / 100) 10 (omega arith)), digit_legal (n / 10 % 10) (mod_below (n / 10) 10 (omega arith)), digit_legal (n % 10) (mod_below n 10 (omega arith))) refl;
  value = omega arith;
}

-- the digits without the zeros before the first, by how many those are
digits_by_zeros : (n count : ℕ) → leading_zeros n ≡ count → IsNumber (drop count (four_digits n)) n → IsNumber (short_digits n) n
digits_by_zeros n count e is = subst (λ (z : ℕ). IsNumber (drop z (four_digits n)) n) (sym e) is

-- a number in as many digits as it has
IsNumber-short : (n : ℕ) → n ≤ 9999 → IsNumber (short_digits n) n
IsNumber-short n small =
    elim (cases_lt n 10) [
      | inl lt ↦ digits_by_zeros n 3 (zeros_three n lt) (one_digit n lt)
      | inr ten ↦ elim (cases_lt n 100) [
        | inl lt ↦ digits_by_zeros n 2 (zeros_two n ten lt) (two_digits n lt)
        | inr hundred ↦ elim (cases_lt n 1000) [
          | inl lt ↦ digits_by_zeros n 1 (zeros_one n hundred lt) (three_digits n lt)
          | inr thousand ↦ digits_by_zeros n 0 (zeros_none n thousand) (all_digits n small)
        ]
      ]
    ]

IsNumber-decimal : (n : ℕ) → n ≤ 9999 → IsNumber (decimal n) n
IsNumber-decimal n small = subst (λ (ds : List ℕ). IsNumber ds n) (short_digits-decimal n small) (IsNumber-short n small)

-- a byte of a seed
is_ascii_alphanumeric-seed_byte : (c : ℕ) → is_seed_byte c ≡ true → is_ascii_alphanumeric c ≡ true
is_ascii_alphanumeric-seed_byte c e = grind (arith, nat_tests)

-- a byte of a seed in lower case
lowercase-seed_byte : (c : ℕ) → is_seed_byte c ≡ true → to_ascii_lowercase c ≡ c
lowercase-seed_byte c e = grind (arith, nat_tests)

-- the bytes of a seed are letters and digits, in lower case
seed_bytes_legal : (seed : List ℕ) → list_all is_seed_byte seed ≡ true → (list_all is_ascii_alphanumeric seed ≡ true) × (seed ≡ map to_ascii_lowercase seed)
seed_bytes_legal [] e = (refl, refl)
seed_bytes_legal (c ∷ cs) e =
    let parts = and_parts (is_seed_byte c) (list_all is_seed_byte cs) e in
    let rest = seed_bytes_legal cs parts.1 in
    let same : to_ascii_lowercase c ≡ c = lowercase-seed_byte c parts.0 in
    (and_from _ _ (is_ascii_alphanumeric-seed_byte c parts.0) rest.0, cc)

-- a seed is a seed's text, in lower case
seed_is_text : (seed : List ℕ) → is_seed seed ≡ true → (is_seed_text seed ≡ true) × (seed ≡ map to_ascii_lowercase seed)
unfolding is_seed is_seed_text
seed_is_text seed e =
    let parts = and_parts (nat_le 1 (length seed) && nat_le (length seed) 16) (list_all is_seed_byte seed) e in
    let legal = seed_bytes_legal seed parts.1 in
    (and_from _ _ parts.0 legal.0, legal.1)

-- a challenge that is written is read whole, whatever follows
pub challenge_of-reads : (algo : Algo) (n used : ℕ) (seed unread : List ℕ) → n ≤ 9999 → is_seed seed ≡ true → used ≡ length (challenge_of algo n seed) → BeginsWithChallenge (challenge_of algo n seed ++ unread) algo n seed used
unfolding challenge_of
challenge_of-reads algo n used seed unread small legal long =
    let text = seed_is_text seed legal in
    record {
      gap = 32 ∷ [];
      digits = decimal n;
      second_gap = 32 ∷ [];
      name = seed;
      close = 10;
      unread = unread;
      spelled = simp append_assoc;
      parted = record { some = omega arith; blank = refl };
      number = IsNumber-decimal n small;
      parted_again = record { some = omega arith; blank = refl };
      legal = text.0;
      in_lower_case = text.1;
      closed = refl;
      all_used = omega (arith, long, length-append (challenge_of algo n seed) unread);
    }
