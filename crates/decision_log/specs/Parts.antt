-- Believed: the parts of a line, from left to right. A part ends at a space or a newline.
use Rattle.std.specs.Prelude.{◌≡◌, ◌≢◌, ℕ, ◌≤◌, ◌^◌, Bool, ◌||◌, ◌&&◌, ◌==◌, List, [], ◌∷◌, drop, length, take, Option}
use Rattle.std.specs.Prelude.{Some, None, Result, Ok, Err, nat_le, nat_lt, if◌then◌else◌}
use Rattle.std.specs.Bool.{then_some}
use Rattle.std.specs.Int.{w64, from_be_bytes}
use Rattle.std.specs.List.{position_or_len}
use Rattle.std.specs.Result.{result_ok}
use Rattle.std.specs.Str.{bytes_eq}
use Rattle.hex.specs.Hex.{decode_of, encode_lower}
use Rattle.text_line.specs.Reading.{decimal_of}
use Rattle.request_catalogue.specs.Results.{demand, ◌>>=◌}
use Rattle.request_catalogue.specs.Texts.{is_name}
use Rattle.decision_log.specs.declared.logged.LineFault.{LineFault}
use Rattle.decision_log.specs.declared.logged.LineFault.TheVariants.{Hex, Number, Rule, Word}

-- a byte that ends a part: a space or a newline
abbrev pub ends_part : ℕ → Bool
ends_part c = c == 32 || c == 10

-- the first part of a text, up to a space or a newline
abbrev pub first_part : List ℕ → List ℕ
first_part text = take (position_or_len ends_part text) text

-- what follows the first part of a text
abbrev pub behind_part : List ℕ → List ℕ
behind_part text = drop (position_or_len ends_part text) text

-- what follows a space at the front; nothing if there is none
abbrev pub behind_space : List ℕ → List ℕ
behind_space [] = []
behind_space (c ∷ text) = if c == 32 then text else []

-- a value that was read, and what is left of the text
pub record Read (A : Type 0) : Type 0 where
  pub value : A
  pub rest : List ℕ

-- the first part of a text as its reader reads it, and what is left
abbrev pub part : {A : Type 0} → (List ℕ → Result A LineFault) → List ℕ → Result (Read A) LineFault
part read text = do
  value ← read (first_part text)
  Ok (record { value = value; rest = behind_part text })

-- the next part, after a space, as its reader reads it; without a space the part is missing
abbrev pub next : {A : Type 0} → (List ℕ → Result A LineFault) → List ℕ → Result (Read A) LineFault
next read text = part read (behind_space text)

-- one part, and the value that it makes
abbrev pub one : {A C : Type 0} → (List ℕ → Result A LineFault) → (A → C) → List ℕ → Result (Read C) LineFault
one first make text = do
  a ← next first text
  Ok (record { value = make a.value; rest = a.rest })

-- two parts, and the value that they make
abbrev pub two : {A B C : Type 0} → (List ℕ → Result A LineFault) → (List ℕ → Result B LineFault) → (A → B → C) → List ℕ
    → Result (Read C) LineFault
two first second make text = do
  a ← next first text
  b ← next second a.rest
  Ok (record { value = make a.value b.value; rest = b.rest })

-- three parts, and the value that they make
abbrev pub three : {A B C D : Type 0} → (List ℕ → Result A LineFault) → (List ℕ → Result B LineFault)
    → (List ℕ → Result C LineFault) → (A → B → C → D) → List ℕ → Result (Read D) LineFault
three first second third make text = do
  a ← next first text
  b ← next second a.rest
  c ← next third b.rest
  Ok (record { value = make a.value b.value c.value; rest = c.rest })

-- the number that a part is, if it is below a limit
abbrev pub number_below : ℕ → List ℕ → Result ℕ LineFault
number_below limit bytes = do
  number ← demand Number (decimal_of bytes)
  demand Number (then_some (nat_lt number limit) number)

-- the number of 32 bits that stands after this letter in a part
abbrev pub lettered : ℕ → List ℕ → Result ℕ LineFault
lettered letter [] = Err Word
lettered letter (c ∷ digits) = if c == letter then number_below (2 ^ 32) digits else Err Word

-- the rule that a part names, from `low` to `high`
abbrev pub rule_in : ℕ → ℕ → List ℕ → Result ℕ LineFault
rule_in low high bytes = do
  rule ← number_below (2 ^ 8) bytes
  demand Rule (then_some (nat_le low rule && nat_le rule high) rule)

-- the user's name that a part is
abbrev pub name_in : List ℕ → Result (List ℕ) LineFault
name_in bytes = demand Word (then_some (is_name bytes) bytes)

-- these bytes, if a part is their lower-case hexadecimal digits
abbrev pub spelled_again : List ℕ → Option (List ℕ) → Option (List ℕ)
spelled_again digits None = None
spelled_again digits (Some bytes) = then_some (bytes_eq (encode_lower bytes) digits) bytes

-- the bytes that a part spells in lower-case hexadecimal digits
unfoldable pub hex_of : List ℕ → Option (List ℕ)
hex_of digits = spelled_again digits (result_ok (decode_of digits))

-- these digits spell no 64 bytes or fewer
abbrev pub IsNoHex : List ℕ → Type 0
IsNoHex digits = (bytes : List ℕ) → length bytes ≤ 64 → hex_of digits ≢ Some bytes

-- the bytes that a part spells in hexadecimal, if they pass the test
abbrev pub hex_in : (List ℕ → Bool) → List ℕ → Result (List ℕ) LineFault
hex_in test digits = do
  bytes ← demand Hex (hex_of digits)
  demand Hex (then_some (test bytes) bytes)

-- the password that a part of 16 hexadecimal digits is
abbrev pub password_in : List ℕ → Result ℕ LineFault
password_in digits = do
  bytes ← hex_in (λ b. length b == 8) digits
  Ok (from_be_bytes w64 bytes)

-- a result is what a definition gives, seen by a view, or its fault
abbrev pub Gives : {A B : Type 0} → (A → B) → Result A LineFault → Result B LineFault → Type 0
Gives view (Ok a) expected = expected ≡ Ok (view a)
Gives view (Err fault) expected = expected ≡ Err fault
