-- The table's two directions: what a payload asks is spelled by it, and what is spelled is asked.
use Rattle.std.proofs.Common.{◌≡◌, ℕ, ◌^◌, ◌<◌, ◌+◌, ◌≤◌, Bool, true, false, leb, eqb, ◌&&◌, List, [], ◌∷◌, ◌++◌, length, drop, Some, refl, lit<, sym, ap, subst, ◌∙◌, arith}
use Rattle.std.specs.Bool.{then_some}
use Rattle.std.specs.Int.{w16, w32, w64, to_le_bytes}
use Rattle.std.proofs.lemmas.Bool.{and_parts, eqb-true, leb-true, le-leb}
use Rattle.std.proofs.lemmas.List.{length-drop, nil_from_length}
use Rattle.std.proofs.lemmas.Nat.{from_le_bytes-to_le_bytes_2, from_le_bytes-to_le_bytes_4, from_le_bytes-to_le_bytes_8}
use Rattle.request_catalogue.specs.declared.width.Width.{Width}
use Rattle.request_catalogue.specs.declared.width.Width.TheVariants as widths
use Rattle.request_catalogue.specs.declared.kind.Kind.{Kind}
use Rattle.request_catalogue.specs.declared.kind.Kind.TheVariants as kinds
use Rattle.request_catalogue.specs.Texts.{is_name, is_label, is_note, is_typed_reply}
use Rattle.request_catalogue.specs.Widths.{transfer_max}
use Rattle.request_catalogue.specs.Catalogue.{RequestValue, Banner, Challenge, Reply, Abandon, Export, Import, ReadAt, WriteAt, OpenFile, CloseFile, Info, Note, Finish, kind_of, IsInRange, payload_of}
use Rattle.request_catalogue.specs.Fields.{number_at}
use Rattle.request_catalogue.specs.Reading.{asked_by}
use Rattle.request_catalogue.proofs.Numbers.{IsBytes, wide16, wide32, wide64, number_at-below, two_numbers, last_number}

-- a payload spells a request of a kind
pub record IsSpelled (width : Width) (k : Kind) (payload : List ℕ) (value : RequestValue) : Type 0 where
  pub of_kind : kind_of value ≡ k
  pub in_range : IsInRange width value
  pub spelled : payload ≡ payload_of value

-- the value that stands under a test that passed
tested : (width : Width) (test : Bool) (made : RequestValue) (k : Kind) (payload : List ℕ) → (test ≡ true → IsSpelled width k payload made) → (value : RequestValue) → then_some test made ≡ Some value → IsSpelled width k payload value
tested width true made k payload holds value e = let same : made ≡ value = cc in subst (λ (v : RequestValue). IsSpelled width k payload v) same (holds refl)
tested width false made k payload holds value e = absurd cc

-- a payload that has to be empty
empty : (payload : List ℕ) → eqb (length payload) 0 ≡ true → payload ≡ []
empty payload e = nil_from_length payload (eqb-true (length payload) 0 e)

-- a READ's payload
read_spelled : (width : Width) (p : List ℕ) → IsBytes p → (eqb (length p) 14 && leb 1 (number_at w16 12 p) && leb (number_at w16 12 p) (transfer_max width)) ≡ true → IsSpelled width kinds.ReadAt p (ReadAt (number_at w32 0 p) (number_at w64 4 p) (number_at w16 12 p))
unfolding payload_of
read_spelled width p fits t =
    let both = and_parts (eqb (length p) 14 && leb 1 (number_at w16 12 p)) (leb (number_at w16 12 p) (transfer_max width)) t in
    let front = and_parts (eqb (length p) 14) (leb 1 (number_at w16 12 p)) both.0 in
    let len : length p ≡ 14 = eqb-true (length p) 14 front.0 in
    record {
      of_kind = refl;
      in_range = (number_at-below w32 (2 ^ 32) 0 p wide32 fits, number_at-below w64 (2 ^ 64) 4 p wide64 fits, leb-true 1 (number_at w16 12 p) front.1, leb-true (number_at w16 12 p) (transfer_max width) both.1);
      spelled = sym (ap (λ (x : List ℕ). to_le_bytes w32 (number_at w32 0 p) ++ to_le_bytes w64 (number_at w64 4 p) ++ x) (last_number w16 (2 ^ 16) 12 p wide16 fits len) ∙ two_numbers p fits (omega arith));
    }

-- a WRITE's payload
write_spelled : (width : Width) (p : List ℕ) → IsBytes p → (leb 13 (length p) && leb (length p) (transfer_max width + 12)) ≡ true → IsSpelled width kinds.WriteAt p (WriteAt (number_at w32 0 p) (number_at w64 4 p) (drop 12 p))
unfolding payload_of
write_spelled width p fits t =
    let both = and_parts (leb 13 (length p)) (leb (length p) (transfer_max width + 12)) t in
    let low : 13 ≤ length p = leb-true 13 (length p) both.0 in
    let high : length p ≤ (transfer_max width + 12) = leb-true (length p) (transfer_max width + 12) both.1 in
    record {
      of_kind = refl;
      in_range = (number_at-below w32 (2 ^ 32) 0 p wide32 fits, number_at-below w64 (2 ^ 64) 4 p wide64 fits, omega (arith, length-drop 12 p), omega (arith, length-drop 12 p));
      spelled = sym (two_numbers p fits (omega arith));
    }

-- an OPEN's payload
open_spelled : (width : Width) (mode : ℕ) (name : List ℕ) → (leb 1 mode && leb mode 3 && is_label name) ≡ true → IsSpelled width kinds.OpenFile (mode ∷ name) (OpenFile mode name)
unfolding payload_of
open_spelled width mode name t =
    let both = and_parts (leb 1 mode && leb mode 3) (is_label name) t in
    let front = and_parts (leb 1 mode) (leb mode 3) both.0 in
    record { of_kind = refl; in_range = (leb-true 1 mode front.0, leb-true mode 3 front.1, both.1); spelled = refl }

-- what a payload asks is spelled by it
pub asked_by-IsSpelled : (width : Width) (k : Kind) (payload : List ℕ) → IsBytes payload → (value : RequestValue) → asked_by width k payload ≡ Some value → IsSpelled width k payload value
unfolding asked_by payload_of
asked_by-IsSpelled width kinds.Banner p fits v = tested width (eqb (length p) 0) Banner kinds.Banner p (λ t. record { of_kind = refl; in_range = tt; spelled = empty p t }) v
asked_by-IsSpelled width kinds.Challenge p fits v = tested width (is_name p) (Challenge p) kinds.Challenge p (λ t. record { of_kind = refl; in_range = t; spelled = refl }) v
asked_by-IsSpelled width kinds.Reply p fits v = tested width (is_typed_reply p) (Reply p) kinds.Reply p (λ t. record { of_kind = refl; in_range = t; spelled = refl }) v
asked_by-IsSpelled width kinds.Abandon p fits v = tested width (eqb (length p) 0) Abandon kinds.Abandon p (λ t. record { of_kind = refl; in_range = tt; spelled = empty p t }) v
asked_by-IsSpelled width kinds.Export p fits v = tested width (leb (length p) 8192) (Export p) kinds.Export p (λ t. record { of_kind = refl; in_range = leb-true (length p) 8192 t; spelled = refl }) v
asked_by-IsSpelled width kinds.Import p fits v = tested width (eqb (length p) 0) Import kinds.Import p (λ t. record { of_kind = refl; in_range = tt; spelled = empty p t }) v
asked_by-IsSpelled width kinds.ReadAt p fits v = tested width (eqb (length p) 14 && leb 1 (number_at w16 12 p) && leb (number_at w16 12 p) (transfer_max width)) (ReadAt (number_at w32 0 p) (number_at w64 4 p) (number_at w16 12 p)) kinds.ReadAt p (λ t. read_spelled width p fits t) v
asked_by-IsSpelled width kinds.WriteAt p fits v = tested width (leb 13 (length p) && leb (length p) (transfer_max width + 12)) (WriteAt (number_at w32 0 p) (number_at w64 4 p) (drop 12 p)) kinds.WriteAt p (λ t. write_spelled width p fits t) v
asked_by-IsSpelled width kinds.OpenFile [] fits v = λ e. absurd cc
asked_by-IsSpelled width kinds.OpenFile (m ∷ name) fits v = tested width (leb 1 m && leb m 3 && is_label name) (OpenFile m name) kinds.OpenFile (m ∷ name) (λ t. open_spelled width m name t) v
asked_by-IsSpelled width kinds.CloseFile p fits v = tested width (eqb (length p) 4) (CloseFile (number_at w32 0 p)) kinds.CloseFile p (λ t. record { of_kind = refl; in_range = number_at-below w32 (2 ^ 32) 0 p wide32 fits; spelled = sym (last_number w32 (2 ^ 32) 0 p wide32 fits (eqb-true (length p) 4 t)) }) v
asked_by-IsSpelled width kinds.Info p fits v = tested width (eqb (length p) 4) (Info (number_at w32 0 p)) kinds.Info p (λ t. record { of_kind = refl; in_range = number_at-below w32 (2 ^ 32) 0 p wide32 fits; spelled = sym (last_number w32 (2 ^ 32) 0 p wide32 fits (eqb-true (length p) 4 t)) }) v
asked_by-IsSpelled width kinds.Note p fits v = tested width (is_note p) (Note p) kinds.Note p (λ t. record { of_kind = refl; in_range = t; spelled = refl }) v
asked_by-IsSpelled width kinds.Finish p fits v = tested width (eqb (length p) 0) Finish kinds.Finish p (λ t. record { of_kind = refl; in_range = tt; spelled = empty p t }) v

-- what one request reads is told by 16 bits
transfer_max-fits : (width : Width) → transfer_max width < 2 ^ 16
transfer_max-fits widths.Narrow = lit< tt
transfer_max-fits widths.Wide = lit< tt

-- a READ is asked by its own numbers
read_asked : (width : Width) (handle offset max a b c : ℕ) → a ≡ handle → b ≡ offset → c ≡ max → 1 ≤ max → max ≤ (transfer_max width) → then_some (leb 1 c && leb c (transfer_max width)) (ReadAt a b c) ≡ Some (ReadAt handle offset max)
read_asked width handle offset max a b c p q r low high = rw (p, q, r, le-leb 1 max low, le-leb max (transfer_max width) high) refl

-- a WRITE is asked by its own numbers
write_asked : (width : Width) (handle offset len a b : ℕ) (bytes : List ℕ) → a ≡ handle → b ≡ offset → 13 ≤ len → len ≤ (transfer_max width + 12) → then_some (leb 13 len && leb len (transfer_max width + 12)) (WriteAt a b bytes) ≡ Some (WriteAt handle offset bytes)
write_asked width handle offset len a b bytes p q low high = rw (p, q, le-leb 13 len low, le-leb len (transfer_max width + 12) high) refl

-- what is spelled is asked
pub asked_by-payload_of : (width : Width) (value : RequestValue) → IsInRange width value → asked_by width (kind_of value) (payload_of value) ≡ Some value
unfolding asked_by payload_of number_at
asked_by-payload_of width Banner range = refl
asked_by-payload_of width (Challenge user) range = rw range refl
asked_by-payload_of width (Reply text) range = rw range refl
asked_by-payload_of width Abandon range = refl
asked_by-payload_of width (Export state) range = rw (le-leb (length state) 8192 range) refl
asked_by-payload_of width Import range = refl
asked_by-payload_of width (ReadAt handle offset max) range = read_asked width handle offset max _ _ _ (from_le_bytes-to_le_bytes_4 handle range.0) (from_le_bytes-to_le_bytes_8 offset range.1) (from_le_bytes-to_le_bytes_2 max (omega (arith, transfer_max-fits width))) range.2 range.3
asked_by-payload_of width (WriteAt handle offset bytes) range = write_asked width handle offset (length (payload_of (WriteAt handle offset bytes))) _ _ bytes (from_le_bytes-to_le_bytes_4 handle range.0) (from_le_bytes-to_le_bytes_8 offset range.1) (omega arith) (omega arith)
asked_by-payload_of width (OpenFile mode name) range = rw (le-leb 1 mode range.0, le-leb mode 3 range.1, range.2) refl
asked_by-payload_of width (CloseFile handle) range = ap (λ (n : ℕ). Some (CloseFile n)) (from_le_bytes-to_le_bytes_4 handle range)
asked_by-payload_of width (Info number) range = ap (λ (n : ℕ). Some (Info n)) (from_le_bytes-to_le_bytes_4 number range)
asked_by-payload_of width (Note text) range = rw range refl
asked_by-payload_of width Finish range = refl
