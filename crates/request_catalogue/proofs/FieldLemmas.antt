-- Numbers that are read off the front of a payload, one after the other.
use Rattle.std.proofs.Common.{◌≡◌, ℕ, ◌+◌, Bool, true, false, List, length, take, drop, refl, sym, ap, ◌∙◌, arith, leb, eqb, ◌&&◌}
use Rattle.std.proofs.lemmas.List.{drop-drop, length-drop}
use Rattle.std.proofs.lemmas.Bool.Decides.{nat_tests}
use Rattle.std.specs.Bool.{then_some}
use Rattle.std.specs.Option.{option_map}
use Rattle.std.specs.Int.{Width, w16, w32, w64, byte_len, from_le_bytes}
use Rattle.request_catalogue.specs.declared.width.Width.{Width as FrameWidth}
use Rattle.request_catalogue.specs.declared.kind.Kind.TheVariants as kinds
use Rattle.request_catalogue.specs.declared.request.Request.{Request}
use Rattle.request_catalogue.specs.Catalogue.{ReadAt, WriteAt, value_of}
use Rattle.request_catalogue.specs.Widths.{transfer_max}
use Rattle.request_catalogue.specs.Fields.{TakesNumber, number_at}
use Rattle.request_catalogue.specs.Reading.{asked_by}

-- a number after other bytes
number_at-drop : (w : Width) (place : ℕ) (payload rest : List ℕ) → rest ≡ drop place payload → number_at w place payload ≡ number_at w 0 rest
unfolding number_at
number_at-drop w place payload rest e = ap (λ (x : List ℕ). from_le_bytes w (take (byte_len w) x)) (sym e)

-- what stands after a number that stands after other bytes
drop-rest : (n m : ℕ) (payload a b : List ℕ) → a ≡ drop n payload → b ≡ drop m a → b ≡ drop (n + m) payload
drop-rest n m payload a b e f = f ∙ ap (λ (x : List ℕ). drop m x) e ∙ drop-drop m n payload

-- a test of a sum is a test of its first part
eqb-add : (n m k : ℕ) → n ≡ m + k → eqb n k ≡ eqb m 0
eqb-add n m k e = grind (arith, nat_tests)

-- what a READ asks, by its three numbers and what stands after them
pub asked_by-ReadAt : (width : FrameWidth) (payload a b c : List ℕ) (handle offset max : ℕ) → TakesNumber w32 payload handle a → TakesNumber w64 a offset b → TakesNumber w16 b max c → asked_by width kinds.ReadAt payload ≡ then_some (eqb (length c) 0 && leb 1 max && leb max (transfer_max width)) (ReadAt handle offset max)
unfolding asked_by
asked_by-ReadAt width payload a b c handle offset max x y z =
    let sum : length payload ≡ length c + 14 = omega (arith, x.long, y.long, z.long, ap length x.rest_is, ap length y.rest_is, ap length z.rest_is, length-drop 4 payload, length-drop 8 a, length-drop 2 b) in
    let second : number_at w64 4 payload ≡ offset = number_at-drop w64 4 payload a x.rest_is ∙ sym y.number_is in
    let third : number_at w16 12 payload ≡ max = number_at-drop w16 12 payload b (drop-rest 4 8 payload a b x.rest_is y.rest_is) ∙ sym z.number_is in
    rw (eqb-add (length payload) (length c) 14 sum, second, third, ← x.number_is) refl

-- a test of a sum is a test of its first part
leb-add : (k m n : ℕ) → leb (k + n) (m + n) ≡ leb k m
leb-add k m n = grind (arith, nat_tests)

-- what a WRITE asks, by its two numbers and what stands after them
pub asked_by-WriteAt : (width : FrameWidth) (payload a bytes : List ℕ) (handle offset : ℕ) → TakesNumber w32 payload handle a → TakesNumber w64 a offset bytes → asked_by width kinds.WriteAt payload ≡ then_some (leb 1 (length bytes) && leb (length bytes) (transfer_max width)) (WriteAt handle offset bytes)
unfolding asked_by
asked_by-WriteAt width payload a bytes handle offset x y =
    let sum : length payload ≡ length bytes + 12 = omega (arith, x.long, y.long, ap length x.rest_is, ap length y.rest_is, length-drop 4 payload, length-drop 8 a) in
    let second : number_at w64 4 payload ≡ offset = number_at-drop w64 4 payload a x.rest_is ∙ sym y.number_is in
    rw (second, ← x.number_is, ← drop-rest 4 8 payload a bytes x.rest_is y.rest_is, sum, leb-add 1 (length bytes) 12, leb-add (length bytes) (transfer_max width) 12) refl

-- what is asked under a test, of a request in memory
pub option_map-then_some : (test : Bool) (request : Request) → option_map value_of (then_some test request) ≡ then_some test (value_of request)
option_map-then_some true request = refl
option_map-then_some false request = refl
