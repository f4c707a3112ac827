-- A password's digits are read as the password, and as no words.
use Rattle.std.proofs.Common.{◌≡◌, ℕ, zero, suc, ◌/◌, ◌%◌, ◌<◌, Bool, true, not, List, [], ◌∷◌, ◌++◌, length, slice_index, filter, Option, Some, None, Result, lit<, ◌≤◌, refl, sym, ap, ◌∙◌, arith}
use Rattle.std.specs.Int.{w64, byte_at, bytes_high_first, from_be_bytes, to_be_bytes}
use Rattle.std.specs.List.{list_all}
use Rattle.std.specs.Option.{option_map}
use Rattle.std.specs.Result.{result_ok}
use Rattle.std.proofs.lemmas.Bool.{and_from, and_parts, false≢true}
use Rattle.std.proofs.lemmas.List.Folds.{list_all-append}
use Rattle.std.proofs.lemmas.Nat.{be_bytes_8}
use Rattle.hex.specs.Hex.{IsBytes, decode_sized, encode_lower, encode_with, lower_digits}
use Rattle.hex.proofs.HexLemmas.{decode_sized-encode_lower}
use Rattle.otp_words.specs.Blanks.{is_blank, is_no_blank}
use Rattle.otp_words.specs.Candidates.{AreCandidatesOf}
use Rattle.otp_words.specs.Hex.{hex_reading}
use Rattle.otp_words.specs.Words.{IsSixWords, IsWords}
use Rattle.hex.specs.declared.error.FromHexError.{FromHexError}
use Rattle.policy_model.specs.Settings.{password_text}

no_blank : (d : ℕ) → d < 16 → is_no_blank (slice_index lower_digits d) ≡ true
no_blank zero lt = refl
no_blank (suc zero) lt = refl
no_blank (suc (suc zero)) lt = refl
no_blank (suc (suc (suc zero))) lt = refl
no_blank (suc (suc (suc (suc zero)))) lt = refl
no_blank (suc (suc (suc (suc (suc zero))))) lt = refl
no_blank (suc (suc (suc (suc (suc (suc zero)))))) lt = refl
no_blank (suc (suc (suc (suc (suc (suc (suc zero))))))) lt = refl
no_blank (suc (suc (suc (suc (suc (suc (suc (suc zero)))))))) lt = refl
no_blank (suc (suc (suc (suc (suc (suc (suc (suc (suc zero))))))))) lt = refl
no_blank (suc (suc (suc (suc (suc (suc (suc (suc (suc (suc zero)))))))))) lt = refl
no_blank (suc (suc (suc (suc (suc (suc (suc (suc (suc (suc (suc zero))))))))))) lt = refl
no_blank (suc (suc (suc (suc (suc (suc (suc (suc (suc (suc (suc (suc zero)))))))))))) lt = refl
no_blank (suc (suc (suc (suc (suc (suc (suc (suc (suc (suc (suc (suc (suc zero))))))))))))) lt = refl
no_blank (suc (suc (suc (suc (suc (suc (suc (suc (suc (suc (suc (suc (suc (suc zero)))))))))))))) lt = refl
no_blank (suc (suc (suc (suc (suc (suc (suc (suc (suc (suc (suc (suc (suc (suc (suc zero))))))))))))))) lt = refl
no_blank (suc (suc (suc (suc (suc (suc (suc (suc (suc (suc (suc (suc (suc (suc (suc (suc d)))))))))))))))) lt = absurd (omega (arith, lt))

byte_of : (t : List ℕ) (b : ℕ) → b < 256 → list_all is_no_blank t ≡ true → list_all is_no_blank (slice_index lower_digits (b / 16) ∷ slice_index lower_digits (b % 16) ∷ t) ≡ true
byte_of t b lt h =
    and_from (is_no_blank (slice_index lower_digits (b / 16))) _ (no_blank (b / 16) (omega (arith, lt))) (and_from (is_no_blank (slice_index lower_digits (b % 16))) (list_all is_no_blank t) (no_blank (b % 16) (omega arith)) h)

eight_bytes : (a b c d e f g h : ℕ) → a < 256 → b < 256 → c < 256 → d < 256 → e < 256 → f < 256 → g < 256 → h < 256 → list_all is_no_blank (encode_lower (a ∷ b ∷ c ∷ d ∷ e ∷ f ∷ g ∷ h ∷ [])) ≡ true
unfolding encode_with
eight_bytes a b c d e f g h la lb lc ld le lf lg lh =
    byte_of (encode_lower (b ∷ c ∷ d ∷ e ∷ f ∷ g ∷ h ∷ [])) a la
    (byte_of (encode_lower (c ∷ d ∷ e ∷ f ∷ g ∷ h ∷ [])) b lb
    (byte_of (encode_lower (d ∷ e ∷ f ∷ g ∷ h ∷ [])) c lc
    (byte_of (encode_lower (e ∷ f ∷ g ∷ h ∷ [])) d ld
    (byte_of (encode_lower (f ∷ g ∷ h ∷ [])) e le
    (byte_of (encode_lower (g ∷ h ∷ [])) f lf
    (byte_of (encode_lower (h ∷ [])) g lg (byte_of [] h lh refl)))))))

no_blanks : (password : ℕ) → list_all is_no_blank (password_text password) ≡ true
no_blanks password = eight_bytes _ _ _ _ _ _ _ _ (omega arith) (omega arith) (omega arith) (omega arith) (omega arith) (omega arith) (omega arith) (omega arith)

all_kept : (p : ℕ → Bool) (xs : List ℕ) → list_all p xs ≡ true → filter p xs ≡ xs
all_kept p [] all = refl
all_kept p (x ∷ xs) all =
    let both = and_parts (p x) (list_all p xs) all in
    let here = both.0 in
    rw (here, all_kept p xs both.1) refl

-- a text without blanks isn't six words
no_words : (words : List (List ℕ)) (text : List ℕ) (password : ℕ) → list_all is_no_blank text ≡ true → IsSixWords words text password → ⊥
no_words words text password none is = by_places is.0 is.1 is.2 where
  blank : (front gap rest : List ℕ) → text ≡ front ++ (gap ++ rest) → 1 ≤ length gap → list_all is_blank gap ≡ true → ⊥
  blank front [] rest parts some all = absurd (omega (arith, some))
  blank front (g ∷ gap) rest parts some all =
      let behind = and_parts (list_all is_no_blank front) (list_all is_no_blank (g ∷ gap ++ rest)) (sym (list_all-append is_no_blank front (g ∷ gap ++ rest)) ∙ ap (list_all is_no_blank) (sym parts) ∙ none) in
      let here = and_parts (is_no_blank g) (list_all is_no_blank (gap ++ rest)) behind.1 in
      let there = and_parts (is_blank g) (list_all is_blank gap) all in
      false≢true (sym (ap not there.0) ∙ here.0)

  by_places : (places : List ℕ) → length places ≡ 6 → IsWords words places text → ⊥
  by_places [] six are = absurd (omega (arith, six))
  by_places (i ∷ []) six are = absurd (omega (arith, six))
  by_places (i ∷ j ∷ places) six are = blank are.0 are.1 are.2 are.3 are.5 are.6

-- a byte of a number is one
byte_below : (k n : ℕ) → byte_at k n < 256
byte_below zero n = omega arith
byte_below (suc k) n = omega arith

bytes_below : (k n : ℕ) → IsBytes (bytes_high_first k n)
bytes_below zero n i = lit< tt
bytes_below (suc k) n zero = byte_below k n
bytes_below (suc k) n (suc i) = bytes_below k n i

-- the number that a password's eight bytes are
pub number_of : ℕ → ℕ
number_of password = from_be_bytes w64 (to_be_bytes w64 password)

-- it is sent as the same digits
pub same_text : (password : ℕ) → password_text password ≡ password_text (number_of password)
unfolding number_of
same_text password = ap encode_lower (sym (be_bytes_8 (to_be_bytes w64 password) (from_be_bytes w64 (to_be_bytes w64 password)) refl (bytes_below 8 password) refl))

read_hex : (password : ℕ) → hex_reading (password_text password) ≡ Some (number_of password)
unfolding hex_reading number_of
read_hex password =
    ap (λ (digits : List ℕ). option_map (from_be_bytes w64) (result_ok (decode_sized digits 8))) (all_kept is_no_blank (password_text password) (no_blanks password))
    ∙ ap (λ (r : Result (List ℕ) FromHexError). option_map (from_be_bytes w64) (result_ok r)) (decode_sized-encode_lower (to_be_bytes w64 password) 8 refl (bytes_below 8 password))

-- a password's digits have this one reading
pub readings : (words : List (List ℕ)) (password : ℕ) (spelled hex : Option ℕ) → AreCandidatesOf words (password_text password) spelled hex → (spelled ≡ None) × (hex ≡ Some (number_of password))
readings words password None hex are = (refl, are.hexadecimal ∙ read_hex password)
readings words password (Some other) hex are = absurd (no_words words (password_text password) other (no_blanks password) are.found)
