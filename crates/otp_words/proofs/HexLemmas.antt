-- Hexadecimal digits with blanks between them.
use Rattle.std.proofs.Common.{◌≡◌, ℕ, ◌/◌, ◌%◌, Bool, true, false, List, [], ◌∷◌, map, length, refl, sym, ap, ◌∙◌, Option, None, Some, Result, Ok, Err}
use Rattle.std.specs.Prelude.{filter}
use Rattle.std.specs.Bool.{then_some}
use Rattle.std.specs.Char.{to_ascii_uppercase}
use Rattle.std.specs.Int.{w64, from_be_bytes}
use Rattle.std.specs.List.{range_with_len}
use Rattle.std.specs.Option.{option_map}
use Rattle.std.specs.Result.{result_ok, IsOk, OnOk}
use Rattle.std.proofs.lemmas.Bool.{false≢true}
use Rattle.std.proofs.Math.ListN.{get_or-map}
use Rattle.hex.specs.Hex.{encode_with, encode_lower, encode_upper, lower_digits, decode_sized}
use Rattle.hex.specs.declared.error.FromHexError.{FromHexError}
use Rattle.hex.proofs.HexLemmas.{decode_sized-ok}
use Rattle.otp_words.specs.Blanks.{is_no_blank}
use Rattle.otp_words.specs.Hex.{hex_digits, hex_text, hex_reading}
use Rattle.otp_words.specs.Inner.{grouped}

-- what a test lets through
pub then_some-parts : {A : Type 0} (test : Bool) (x v : A) → then_some test x ≡ Some v → (test ≡ true) × (x ≡ v)
then_some-parts true x v e = (refl, cc)
then_some-parts false x v e = absurd (cc)

-- the text, place by place
pub hex_text-places : (password : ℕ) (digits : List ℕ) → digits ≡ hex_digits password → map (grouped digits) (range_with_len 0 19) ≡ hex_text password
unfolding hex_text encode_with
hex_text-places password digits e = ap (λ (d : List ℕ). map (grouped d) (range_with_len 0 19)) e

-- digits by a table in upper case
map-upper : (t xs : List ℕ) → map to_ascii_uppercase (encode_with t xs) ≡ encode_with (map to_ascii_uppercase t) xs
unfolding encode_with
map-upper t [] = refl
map-upper t (b ∷ rest) = rw (get_or-map to_ascii_uppercase t (b / 16) 0, get_or-map to_ascii_uppercase t (b % 16) 0, map-upper t rest) refl

-- lower-case digits in upper case
pub encode_lower-upper : (xs : List ℕ) → map to_ascii_uppercase (encode_lower xs) ≡ encode_upper xs
encode_lower-upper xs = map-upper lower_digits xs

-- what isn't 16 digits is not decoded
no_bytes : (text : List ℕ) (r : Result (List ℕ) FromHexError) → r ≡ decode_sized text 8 → (length text ≡ 16 → ⊥) → result_ok r ≡ None
no_bytes text (Ok bytes) e other = absurd (other (decode_sized-ok text 8 bytes (sym e)))
no_bytes text (Err fault) e other = refl

-- a text of which other than 16 bytes remain is not read
pub other_reading : (text : List ℕ) → (length (filter is_no_blank text) ≡ 16 → ⊥) → hex_reading text ≡ None
unfolding hex_reading
other_reading text other = ap (option_map (from_be_bytes w64)) (no_bytes (filter is_no_blank text) (decode_sized (filter is_no_blank text) 8) refl other)

-- a text is read by what its digits decode to
pub reading_of : (text digits : List ℕ) (r : Result (List ℕ) FromHexError) (bytes : Option (List ℕ)) → digits ≡ filter is_no_blank text → r ≡ decode_sized digits 8 → bytes ≡ result_ok r → hex_reading text ≡ option_map (from_be_bytes w64) bytes
unfolding hex_reading
reading_of text digits r bytes kept decoded ok =
    sym (ap (option_map (from_be_bytes w64)) (ok ∙ ap result_ok decoded ∙ ap (λ (d : List ℕ). result_ok (decode_sized d 8)) kept))

-- what holds where there is a value, where there is one
pub on_ok : {T E : Type 0} (r : Result T E) (P : Type 0) → IsOk r → OnOk r P → P
on_ok (Ok v) P ok p = p
on_ok (Err e) P ok p = absurd (false≢true ok)
