-- Which records images have, and that these are read from them.
use Rattle.std.proofs.Common.{◌≡◌, ◌≢◌, ◌⊎◌, inl, inr, ℕ, zero, suc, ◌+◌, ◌*◌, ◌<◌, ◌≤◌, ◌^◌, List, [], ◌∷◌, ◌++◌, length, take, drop, codes, refl, sym, ◌∙◌, ap, subst, arith, append_assoc, length-append}
use Rattle.std.specs.List.{All}
use Rattle.std.specs.Int.{w16, to_le_bytes, from_le_bytes}
use Rattle.std.proofs.lemmas.Bool.{cases_eq}
use Rattle.std.proofs.lemmas.Bool.Decides.{nat_tests}
use Rattle.std.proofs.lemmas.List.{take_at, drop_at}
use Rattle.std.proofs.lemmas.List.Elements.{All-append}
use Rattle.std.proofs.lemmas.Nat.{from_le_bytes-to_le_bytes_2}
use Rattle.durable_log.specs.Records.{HasRecords, opened, record_bytes}
use Rattle.durable_log.specs.Journal.{behind_of, image_of, records_from, records_of}
use Rattle.durable_log.proofs.Images.{front_of, image_push}

abbrev pub AreShort : List (List ℕ) → Type 0
AreShort given = All (λ bytes. length bytes < 2 ^ 16) given

pub short_one : (piece : List ℕ) → length piece < 2 ^ 16 → AreShort (piece ∷ [])
short_one piece short zero d here = short
short_one piece short (suc k) d here = absurd (omega arith)

pub short_push : (given : List (List ℕ)) (piece : List ℕ) → AreShort given → length piece < 2 ^ 16 → AreShort (given ++ piece ∷ [])
short_push given piece short here = All-append (λ (bytes : List ℕ). length bytes < 2 ^ 16) given (piece ∷ []) short (short_one piece here)

-- any closed gate ends them
pub closed_has : (given : List (List ℕ)) (gate : ℕ) (rest c : List ℕ) → AreShort given → gate ≢ 1 → c ≡ front_of given ++ gate ∷ rest → HasRecords c given
closed_has given gate rest c short closed is = record { gate = gate; behind = rest; closed = closed; short = short; image_is = is ∙ append_assoc (codes "OTJ1") (opened given) (gate ∷ rest) }

-- with the gate open there is one more
pub open_has : (given : List (List ℕ)) (piece c : List ℕ) → AreShort (given ++ piece ∷ []) → c ≡ front_of given ++ 1 ∷ behind_of piece → HasRecords c (given ++ piece ∷ [])
open_has given piece c short is = record { gate = 0; behind = []; closed = omega arith; short = short; image_is = is ∙ sym (image_push given piece) }

-- whatever the gate is, they are those before or one more
pub gate_has : (given : List (List ℕ)) (piece : List ℕ) (gate : ℕ) (c : List ℕ) → AreShort given → length piece < 2 ^ 16 → c ≡ front_of given ++ gate ∷ behind_of piece → HasRecords c given ⊎ HasRecords c (given ++ piece ∷ [])
gate_has given piece gate c short here is = elim (cases_eq gate 1) [
  | inl is_open ↦ inr (open_has given piece c (short_push given piece short here) (subst (λ (g : ℕ). c ≡ front_of given ++ g ∷ behind_of piece) is_open is))
  | inr shut ↦ inl (closed_has given gate (behind_of piece) c short shut is)
]

-- one record more is read from an opened gate
read_one : (fuel : ℕ) (bytes rest : List ℕ) → length bytes < 2 ^ 16 → records_from (suc fuel) (record_bytes bytes ++ rest) ≡ bytes ∷ records_from fuel rest
read_one fuel bytes rest short =
    let size : from_le_bytes w16 (to_le_bytes w16 (length bytes)) ≡ length bytes = from_le_bytes-to_le_bytes_2 (length bytes) short in
    ap (λ (n : ℕ). take n (bytes ++ rest) ∷ records_from fuel (drop n (bytes ++ rest))) size
    ∙ ap (λ (l : List ℕ). l ∷ records_from fuel (drop (length bytes) (bytes ++ rest))) (take_at bytes rest (length bytes) refl)
    ∙ ap (λ (l : List ℕ). bytes ∷ records_from fuel l) (drop_at bytes rest (length bytes) refl)

read_closed : (fuel gate : ℕ) (rest : List ℕ) → gate ≢ 1 → records_from fuel (gate ∷ rest) ≡ []
read_closed zero gate rest shut = refl
read_closed (suc fuel) gate rest shut = grind (arith, nat_tests)

short_first : (bytes : List ℕ) (given : List (List ℕ)) → AreShort (bytes ∷ given) → length bytes < 2 ^ 16
short_first bytes given short = short 0 [] (omega arith)

short_rest : (bytes : List ℕ) (given : List (List ℕ)) → AreShort (bytes ∷ given) → AreShort given
short_rest bytes given short k d here = short (suc k) d (omega arith)

pub read_opened : (given : List (List ℕ)) (fuel gate : ℕ) (rest : List ℕ) → length given ≤ fuel → AreShort given → gate ≢ 1 → records_from fuel (opened given ++ gate ∷ rest) ≡ given
read_opened [] fuel gate rest enough short shut = read_closed fuel gate rest shut
read_opened (bytes ∷ given) zero gate rest enough short shut = absurd (omega arith)
read_opened (bytes ∷ given) (suc fuel) gate rest enough short shut =
    ap (λ (l : List ℕ). records_from (suc fuel) l) (append_assoc (record_bytes bytes) (opened given) (gate ∷ rest))
    ∙ read_one fuel bytes (opened given ++ gate ∷ rest) (short_first bytes given short)
    ∙ ap (λ (l : List (List ℕ)). bytes ∷ l) (read_opened given fuel gate rest (omega arith) (short_rest bytes given short) shut)

length-opened : (given : List (List ℕ)) → length given ≤ length (opened given)
length-opened [] = omega arith
length-opened (bytes ∷ given) = omega (arith, length-opened given, length-append (record_bytes bytes) (opened given))

-- the records that an image has are those that are read from it
pub records_read : (image : List ℕ) (records : List (List ℕ)) → HasRecords image records → records_of image ≡ records
records_read image records has =
    let whole : length image ≡ length (codes "OTJ1" ++ (opened records ++ has.gate ∷ has.behind)) = ap (λ (l : List ℕ). length l) has.image_is in
    let long : length image ≡ 4 + length (opened records ++ has.gate ∷ has.behind) = omega (arith, whole) in
    ap (λ (l : List ℕ). records_from (length image) (drop 4 l)) has.image_is
    ∙ read_opened records (length image) has.gate has.behind (omega (arith, long, length-opened records, length-append (opened records) (has.gate ∷ has.behind))) has.short has.closed

pub image_has : (given : List (List ℕ)) → AreShort given → HasRecords (image_of given) given
image_has given short = record { gate = 0; behind = []; closed = omega arith; short = short; image_is = refl }

pub image_records : (given : List (List ℕ)) → AreShort given → records_of (image_of given) ≡ given
image_records given short = records_read (image_of given) given (image_has given short)

-- how long the image of records is
short_opened : (given : List (List ℕ)) → All (λ bytes. length bytes ≤ 256) given → length (opened given) ≤ 259 * length given
short_opened [] short = omega arith
short_opened (bytes ∷ given) short =
    let here : length bytes ≤ 256 = short 0 [] (omega arith) in
    let rest : length (opened given) ≤ 259 * length given = short_opened given (λ k d below. short (suc k) d (omega arith)) in
    let whole : length (opened (bytes ∷ given)) ≡ length (record_bytes bytes) + length (opened given) = length-append (record_bytes bytes) (opened given) in
    omega (arith, here, rest, whole)

pub image_fits : (given : List (List ℕ)) → All (λ bytes. length bytes ≤ 256) given → length given ≤ 1048576 → length (image_of given) ≤ 271581189
image_fits given short few =
    let whole : length (image_of given) ≡ length (codes "OTJ1" ++ (opened given ++ 0 ∷ [])) = refl in
    omega (arith, whole, short_opened given short, length-append (opened given) (0 ∷ []), few)
