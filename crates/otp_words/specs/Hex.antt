-- Believed: passwords in hexadecimal digits.
use Rattle.std.specs.Prelude.{ℕ, List, ◌∷◌, ◌++◌, take, drop, filter, Option}
use Rattle.std.specs.Int.{w64, from_be_bytes, to_be_bytes}
use Rattle.std.specs.Option.{option_map}
use Rattle.std.specs.Result.{result_ok}
use Rattle.hex.specs.Hex.{encode_upper, decode_sized}
use Rattle.otp_words.specs.Blanks.{is_no_blank}

-- the 16 upper-case digits of a password, the most significant first
abbrev pub hex_digits : ℕ → List ℕ
hex_digits password = encode_upper (to_be_bytes w64 password)

-- a password as four groups of four hexadecimal digits
unfoldable pub hex_text : ℕ → List ℕ
hex_text password =
    let digits = hex_digits password in
    take 4 digits ++ 32 ∷ take 4 (drop 4 digits) ++ 32 ∷ take 4 (drop 8 digits) ++ 32 ∷ drop 12 digits

-- the password that 16 hexadecimal digits of any case spell, spaces and tabs left out; none if anything else is there
unfoldable pub hex_reading : List ℕ → Option ℕ
hex_reading text = option_map (from_be_bytes w64) (result_ok (decode_sized (filter is_no_blank text) 8))
