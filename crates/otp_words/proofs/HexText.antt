-- What is written in hexadecimal is read.
use Rattle.std.proofs.Common.{◌≡◌, ℕ, zero, suc, ◌/◌, ◌%◌, ◌^◌, ◌<◌, Bool, true, List, [], ◌∷◌, ◌++◌, length, take, drop, refl, ap, ◌∙◌, arith, Some, Ok, Result, filter}
use Rattle.hex.specs.declared.error.FromHexError.{FromHexError}
use Rattle.std.specs.Prelude.{slice_index}
use Rattle.std.specs.Int.{w64, from_be_bytes, to_be_bytes, byte_at, bytes_high_first}
use Rattle.std.specs.List.{list_all}
use Rattle.std.specs.Option.{option_map}
use Rattle.std.specs.Result.{result_ok}
use Rattle.std.proofs.lemmas.Bool.{and_parts, and_from}
use Rattle.std.proofs.lemmas.List.Elements.{filter-append}
use Rattle.std.proofs.lemmas.Nat.{from_be_bytes-to_be_bytes_8, mod_below}
use Rattle.hex.specs.Hex.{encode_with, upper_digits, decode_sized, IsBytes}
use Rattle.hex.proofs.HexLemmas.{decode_sized-twice, decode_of-encode_upper}
use Rattle.otp_words.specs.Blanks.{is_no_blank}
use Rattle.otp_words.specs.Hex.{hex_digits, hex_reading, hex_text}

-- what passes stays
filter-all : (p : ℕ → Bool) (xs : List ℕ) → list_all p xs ≡ true → filter p xs ≡ xs
filter-all p [] e = refl
filter-all p (x ∷ xs) e =
    let parts = and_parts (p x) (list_all p xs) e in
    rw (parts.0, filter-all p xs parts.1) refl

-- a front of what passes does
list_all-take : (p : ℕ → Bool) (n : ℕ) (xs : List ℕ) → list_all p xs ≡ true → list_all p (take n xs) ≡ true
list_all-take p zero xs e = refl
list_all-take p (suc n) [] e = refl
list_all-take p (suc n) (x ∷ xs) e =
    let parts = and_parts (p x) (list_all p xs) e in
    and_from _ _ parts.0 (list_all-take p n xs parts.1)

-- what follows a front of what passes does
list_all-drop : (p : ℕ → Bool) (n : ℕ) (xs : List ℕ) → list_all p xs ≡ true → list_all p (drop n xs) ≡ true
list_all-drop p zero xs e = e
list_all-drop p (suc n) [] e = refl
list_all-drop p (suc n) (x ∷ xs) e = list_all-drop p n xs ((and_parts (p x) (list_all p xs) e).1)

-- an element of what passes does, and 0 past the end
at_all : (p : ℕ → Bool) (xs : List ℕ) (i : ℕ) → p 0 ≡ true → list_all p xs ≡ true → p (slice_index xs i) ≡ true
at_all p [] i none e = none
at_all p (x ∷ xs) zero none e = (and_parts (p x) (list_all p xs) e).0
at_all p (x ∷ xs) (suc i) none e = at_all p xs i none ((and_parts (p x) (list_all p xs) e).1)

-- no digit is a blank
no_blanks : (xs : List ℕ) → list_all is_no_blank (encode_with upper_digits xs) ≡ true
unfolding encode_with
no_blanks [] = refl
no_blanks (b ∷ rest) =
    and_from _ _ (at_all is_no_blank upper_digits (b / 16) refl refl) (and_from _ _ (at_all is_no_blank upper_digits (b % 16) refl refl) (no_blanks rest))

-- the blanks between lists without blanks are dropped
filter-spaced : (a b c d : List ℕ) → filter is_no_blank a ≡ a → filter is_no_blank b ≡ b → filter is_no_blank c ≡ c → filter is_no_blank d ≡ d → filter is_no_blank (a ++ 32 ∷ b ++ 32 ∷ c ++ 32 ∷ d) ≡ a ++ b ++ c ++ d
filter-spaced a b c d ea eb ec ed = simp (filter-append, ea, eb, ec, ed) refl

-- the groups of a password's digits are its digits
groups_joined : (p : ℕ) → take 4 (hex_digits p) ++ take 4 (drop 4 (hex_digits p)) ++ take 4 (drop 8 (hex_digits p)) ++ drop 12 (hex_digits p) ≡ hex_digits p
unfolding encode_with
groups_joined p = refl

-- the digits are what is left without blanks
filter-hex_text : (p : ℕ) → filter is_no_blank (hex_text p) ≡ hex_digits p
unfolding hex_text
filter-hex_text p =
    let digits : List ℕ = hex_digits p in
    let all : list_all is_no_blank digits ≡ true = no_blanks (to_be_bytes w64 p) in
    let kept = λ (n m : ℕ). filter-all is_no_blank (take n (drop m digits)) (list_all-take is_no_blank n (drop m digits) (list_all-drop is_no_blank m digits all)) in
    filter-spaced (take 4 digits) (take 4 (drop 4 digits)) (take 4 (drop 8 digits)) (drop 12 digits) (kept 4 0) (kept 4 4) (kept 4 8) (filter-all is_no_blank (drop 12 digits) (list_all-drop is_no_blank 12 digits all))
    ∙ groups_joined p

-- a password has 16 digits
length-hex_digits : (p : ℕ) → length (hex_digits p) ≡ 16
unfolding encode_with
length-hex_digits p = refl

-- a byte of a number is one
byte_below : (k n : ℕ) → byte_at k n < 256
byte_below zero n = mod_below n 256 (omega arith)
byte_below (suc k) n = mod_below (n / 256 ^ suc k) 256 (omega arith)

-- the bytes of a number are bytes
bytes_below : (k n : ℕ) → IsBytes (bytes_high_first k n)
bytes_below zero n i = omega arith
bytes_below (suc k) n zero = byte_below k n
bytes_below (suc k) n (suc i) = bytes_below k n i

-- what is written in hexadecimal is read
pub hex_reading-hex_text : (password : ℕ) → password < 2 ^ 64 → hex_reading (hex_text password) ≡ Some password
unfolding hex_reading
hex_reading-hex_text p small =
    let read : decode_sized (hex_digits p) 8 ≡ Ok (to_be_bytes w64 p) = decode_sized-twice (hex_digits p) 8 (length-hex_digits p) ∙ decode_of-encode_upper (to_be_bytes w64 p) (bytes_below 8 p) in
    ap (λ (t : List ℕ). option_map (from_be_bytes w64) (result_ok (decode_sized t 8))) (filter-hex_text p)
    ∙ ap (λ (r : Result (List ℕ) FromHexError). option_map (from_be_bytes w64) (result_ok r)) read
    ∙ ap (λ (n : ℕ). Some n) (from_be_bytes-to_be_bytes_8 p small)

-- the text has 19 bytes
pub length-hex_text : (password : ℕ) → length (hex_text password) ≡ 19
unfolding hex_text encode_with
length-hex_text p = refl
