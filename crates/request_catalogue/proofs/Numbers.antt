-- A number that is read off a payload is spelled as the bytes that it was read from.
use Rattle.std.proofs.Common.{◌≡◌, ℕ, ◌+◌, ◌^◌, ◌<◌, ◌≤◌, List, ◌++◌, length, get_or, take, drop, inl, inr, refl, sym, ap, ◌∙◌, append_assoc, arith}
use Rattle.std.specs.Int.{Width, w16, w32, w64, byte_len, from_le_bytes, to_le_bytes}
use Rattle.std.proofs.lemmas.Bool.{cases_lt}
use Rattle.std.proofs.lemmas.List.{drop-drop, take-append-drop, take_all, length-drop, length-take, length-take-le, get_or-drop, get_or-take, get_or_past}
use Rattle.std.proofs.lemmas.Nat.{le_bytes_2, le_bytes_4, le_bytes_8}
use Rattle.request_catalogue.specs.Fields.{number_at}

-- each is a byte
abbrev pub IsBytes : List ℕ → Type 0
IsBytes bytes = (i : ℕ) → get_or bytes i 0 < 256

-- a part of bytes is bytes
pub IsBytes-part : (n place : ℕ) (bytes : List ℕ) → IsBytes bytes → IsBytes (take n (drop place bytes))
IsBytes-part n place bytes fits i =
    elim (cases_lt i n) [
      | inl lt ↦ rw (get_or-take {A = ℕ} n (drop place bytes) i 0 lt, get_or-drop {A = ℕ} place bytes i 0) (fits (place + i))
      | inr le ↦ rw (get_or_past {X = ℕ} (take n (drop place bytes)) i 0 (omega (arith, length-take n (drop place bytes)))) (omega arith)
    ]

-- numbers of a width are spelled by its bytes
pub record IsWide (w : Width) (limit : ℕ) : Type 0 where
  pub back : (bytes : List ℕ) → length bytes ≡ byte_len w → IsBytes bytes → to_le_bytes w (from_le_bytes w bytes) ≡ bytes
  pub below : (bytes : List ℕ) → IsBytes bytes → from_le_bytes w bytes < limit

pub wide16 : IsWide w16 (2 ^ 16)
wide16 = record {
  back = λ bytes len fits. le_bytes_2 bytes _ len fits refl;
  below = λ bytes fits. omega (arith, fits 0, fits 1);
}

pub wide32 : IsWide w32 (2 ^ 32)
wide32 = record {
  back = λ bytes len fits. le_bytes_4 bytes _ len fits refl;
  below = λ bytes fits. omega (arith, fits 0, fits 1, fits 2, fits 3);
}

pub wide64 : IsWide w64 (2 ^ 64)
wide64 = record {
  back = λ bytes len fits. le_bytes_8 bytes _ len fits refl;
  below = λ bytes fits. omega (arith, fits 0, fits 1, fits 2, fits 3, fits 4, fits 5, fits 6, fits 7);
}

-- a number that stands in a payload is in its width's range
pub number_at-below : (w : Width) (limit place : ℕ) (payload : List ℕ) → IsWide w limit → IsBytes payload → number_at w place payload < limit
unfolding number_at
number_at-below w limit place payload wide fits = wide.below (take (byte_len w) (drop place payload)) (IsBytes-part (byte_len w) place payload fits)

-- a number that stands in a payload is spelled as the bytes there
pub to_le_bytes-number_at : (w : Width) (limit place : ℕ) (payload : List ℕ) → IsWide w limit → IsBytes payload → place + byte_len w ≤ length payload → to_le_bytes w (number_at w place payload) ≡ take (byte_len w) (drop place payload)
unfolding number_at
to_le_bytes-number_at w limit place payload wide fits long =
    wide.back (take (byte_len w) (drop place payload)) (length-take-le (byte_len w) (drop place payload) (omega (arith, length-drop place payload))) (IsBytes-part (byte_len w) place payload fits)

-- four bytes, eight bytes and the rest
parts : (p : List ℕ) → take 4 p ++ take 8 (drop 4 p) ++ drop 12 p ≡ p
parts p =
    append_assoc (take 4 p) (take 8 (drop 4 p)) (drop 12 p) ∙ ap (λ (x : List ℕ). take 4 p ++ x) (ap (λ (x : List ℕ). take 8 (drop 4 p) ++ x) (sym (drop-drop 8 4 p)) ∙ take-append-drop 8 (drop 4 p)) ∙ take-append-drop 4 p

-- a payload that begins with a handle and an offset
pub two_numbers : (p : List ℕ) → IsBytes p → 12 ≤ length p → to_le_bytes w32 (number_at w32 0 p) ++ to_le_bytes w64 (number_at w64 4 p) ++ drop 12 p ≡ p
two_numbers p fits long =
    let first : to_le_bytes w32 (number_at w32 0 p) ≡ take 4 p = to_le_bytes-number_at w32 (2 ^ 32) 0 p wide32 fits (omega arith) in
    let second : to_le_bytes w64 (number_at w64 4 p) ≡ take 8 (drop 4 p) = to_le_bytes-number_at w64 (2 ^ 64) 4 p wide64 fits (omega arith) in
    ap (λ (x : List ℕ). x ++ to_le_bytes w64 (number_at w64 4 p) ++ drop 12 p) first ∙ ap (λ (x : List ℕ). take 4 p ++ x ++ drop 12 p) second ∙ parts p

-- a payload that ends with the number
pub last_number : (w : Width) (limit place : ℕ) (p : List ℕ) → IsWide w limit → IsBytes p → length p ≡ place + byte_len w → to_le_bytes w (number_at w place p) ≡ drop place p
last_number w limit place p wide fits len =
    to_le_bytes-number_at w limit place p wide fits (omega arith) ∙ take_all (byte_len w) (drop place p) (omega (arith, length-drop place p))
