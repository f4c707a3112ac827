-- Hexadecimal digits are letters and digits in lower case.
use Rattle.std.proofs.Common.{◌≡◌, ℕ, zero, suc, ◌/◌, ◌%◌, ◌<◌, Bool, true, ◌&&◌, ◌==◌, List, [], ◌∷◌, map, slice_index, refl, arith}
use Rattle.std.specs.Char.{is_ascii_alphanumeric, to_ascii_lowercase}
use Rattle.std.specs.List.{list_all}
use Rattle.std.proofs.lemmas.Bool.{and_from, and_parts, eqb-true}
use Rattle.hex.specs.Hex.{encode_lower, encode_with, lower_digits}
use Rattle.otp_hash.specs.Seeds.{is_seed_text}

-- a letter or digit that lower case leaves as it is
abbrev stays : ℕ → Bool
stays c = is_ascii_alphanumeric c && (to_ascii_lowercase c == c)

digit_stays : (d : ℕ) → d < 16 → stays (slice_index lower_digits d) ≡ true
digit_stays zero lt = refl
digit_stays (suc zero) lt = refl
digit_stays (suc (suc zero)) lt = refl
digit_stays (suc (suc (suc zero))) lt = refl
digit_stays (suc (suc (suc (suc zero)))) lt = refl
digit_stays (suc (suc (suc (suc (suc zero))))) lt = refl
digit_stays (suc (suc (suc (suc (suc (suc zero)))))) lt = refl
digit_stays (suc (suc (suc (suc (suc (suc (suc zero))))))) lt = refl
digit_stays (suc (suc (suc (suc (suc (suc (suc (suc zero)))))))) lt = refl
digit_stays (suc (suc (suc (suc (suc (suc (suc (suc (suc zero))))))))) lt = refl
digit_stays (suc (suc (suc (suc (suc (suc (suc (suc (suc (suc zero)))))))))) lt = refl
digit_stays (suc (suc (suc (suc (suc (suc (suc (suc (suc (suc (suc zero))))))))))) lt = refl
digit_stays (suc (suc (suc (suc (suc (suc (suc (suc (suc (suc (suc (suc zero)))))))))))) lt = refl
digit_stays (suc (suc (suc (suc (suc (suc (suc (suc (suc (suc (suc (suc (suc zero))))))))))))) lt = refl
digit_stays (suc (suc (suc (suc (suc (suc (suc (suc (suc (suc (suc (suc (suc (suc zero)))))))))))))) lt = refl
digit_stays (suc (suc (suc (suc (suc (suc (suc (suc (suc (suc (suc (suc (suc (suc (suc zero))))))))))))))) lt = refl
digit_stays (suc (suc (suc (suc (suc (suc (suc (suc (suc (suc (suc (suc (suc (suc (suc (suc d)))))))))))))))) lt = absurd (omega (arith, lt))

pair_stays : (b : ℕ) → b < 256 → (stays (slice_index lower_digits (b / 16)) ≡ true) × (stays (slice_index lower_digits (b % 16)) ≡ true)
pair_stays b lt = (digit_stays (b / 16) (omega (arith, lt)), digit_stays (b % 16) (omega arith))

lowercase_stays : (xs : List ℕ) → list_all stays xs ≡ true → map to_ascii_lowercase xs ≡ xs
lowercase_stays [] h = refl
lowercase_stays (x ∷ xs) h =
    let both = and_parts (stays x) (list_all stays xs) h in
    let head : to_ascii_lowercase x ≡ x = eqb-true (to_ascii_lowercase x) x (and_parts (is_ascii_alphanumeric x) (to_ascii_lowercase x == x) both.0).1 in
    let rest = lowercase_stays xs both.1 in
    cc

alphanumeric_stays : (xs : List ℕ) → list_all stays xs ≡ true → list_all is_ascii_alphanumeric xs ≡ true
alphanumeric_stays [] h = refl
alphanumeric_stays (x ∷ xs) h =
    let both = and_parts (stays x) (list_all stays xs) h in
    and_from (is_ascii_alphanumeric x) (list_all is_ascii_alphanumeric xs) (and_parts (is_ascii_alphanumeric x) (to_ascii_lowercase x == x) both.0).0 (alphanumeric_stays xs both.1)

digits_stay : (t : List ℕ) (b : ℕ) → b < 256 → list_all stays t ≡ true → list_all stays (slice_index lower_digits (b / 16) ∷ slice_index lower_digits (b % 16) ∷ t) ≡ true
digits_stay t b lt h =
    let pair = pair_stays b lt in
    and_from (stays (slice_index lower_digits (b / 16))) _ pair.0 (and_from (stays (slice_index lower_digits (b % 16))) (list_all stays t) pair.1 h)

-- the digits of four bytes are the text of a seed, in lower case already
pub seed_digits : (a b c d : ℕ) → a < 256 → b < 256 → c < 256 → d < 256 → (is_seed_text (encode_lower (a ∷ b ∷ c ∷ d ∷ [])) ≡ true) × (map to_ascii_lowercase (encode_lower (a ∷ b ∷ c ∷ d ∷ [])) ≡ encode_lower (a ∷ b ∷ c ∷ d ∷ []))
unfolding encode_with is_seed_text
seed_digits a b c d la lb lc ld =
    let all = digits_stay (encode_lower (b ∷ c ∷ d ∷ [])) a la (digits_stay (encode_lower (c ∷ d ∷ [])) b lb (digits_stay (encode_lower (d ∷ [])) c lc (digits_stay [] d ld refl))) in
    (alphanumeric_stays (encode_lower (a ∷ b ∷ c ∷ d ∷ [])) all, lowercase_stays (encode_lower (a ∷ b ∷ c ∷ d ∷ [])) all)
