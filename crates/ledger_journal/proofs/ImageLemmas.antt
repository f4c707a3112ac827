-- The records of an image, from the left.
use Rattle.std.proofs.Common.{◌≡◌, ◌≢◌, ℕ, ◌+◌, ◌≤◌, ◌<◌, ◌^◌, List, [], ◌∷◌, ◌++◌, codes, drop, get_or, length, take, true, refl, sym, ap, ◌∙◌, arith, append_assoc, length-append}
use Rattle.std.specs.Prelude.{All}
use Rattle.std.specs.Str.{bytes_eq}
use Rattle.std.specs.Int.{w16, from_le_bytes, to_le_bytes}
use Rattle.std.proofs.lemmas.List.{append-nil, append_cancel_left, drop_at, take_at, take-append-drop}
use Rattle.std.proofs.lemmas.Slice.Eq.{bytes_eq-Decides}
use Rattle.std.proofs.lemmas.List.Elements.{All-head, All-tail, All-push}
use Rattle.std.proofs.lemmas.Nat.{from_le_bytes-to_le_bytes_2}
use Rattle.durable_log.specs.Records.{HasRecords, opened, record_bytes}
use Rattle.ledger_journal.specs.Images.{IsClosed, IsCut, IsNoLog, IsOpened}

abbrev pub Short : List ℕ → Type 0
Short bytes = length bytes < 2 ^ 16

-- two opened records at one front are the same
same_front : (a b x y : List ℕ) → Short a → Short b → record_bytes a ++ x ≡ record_bytes b ++ y → (a ≡ b) × (x ≡ y)
same_front a b x y sa sb e =
    let rest : a ++ x ≡ b ++ y = ap (drop 3) e in
    let front : to_le_bytes w16 (length a) ≡ to_le_bytes w16 (length b) = ap (λ (s : List ℕ). take 2 (drop 1 s)) e in
    let same : length a ≡ length b = sym (from_le_bytes-to_le_bytes_2 (length a) sa) ∙ ap (from_le_bytes w16) front ∙ from_le_bytes-to_le_bytes_2 (length b) sb in
    (sym (take_at a x (length a) refl) ∙ ap (take (length a)) rest ∙ take_at b y (length a) (sym same), sym (drop_at a x (length a) refl) ∙ ap (drop (length a)) rest ∙ drop_at b y (length a) (sym same))

-- the records that were walked are the first of all, and the others stand in the rest
record Walked (done : List (List ℕ)) (rest : List ℕ) (records : List (List ℕ)) (tail : List ℕ) : Type 0 where
  more : List (List ℕ)
  parts : records ≡ done ++ more
  short : All Short more
  rest_is : rest ≡ opened more ++ tail

walked : (done : List (List ℕ)) (rest : List ℕ) (records : List (List ℕ)) (gate : ℕ) (behind : List ℕ) → All Short done → All Short records → gate ≢ 1 → opened done ++ rest ≡ opened records ++ gate ∷ behind → Walked done rest records (gate ∷ behind)
walked [] rest records gate behind sd sr ne e = record { more = records; parts = refl; short = sr; rest_is = e }
walked (d ∷ done) rest [] gate behind sd sr ne e = absurd (ne (ap (λ (s : List ℕ). get_or s 0 0) (sym e)))
walked (d ∷ done) rest (r ∷ records) gate behind sd sr ne e =
    let f : record_bytes d ++ (opened done ++ rest) ≡ record_bytes r ++ (opened records ++ gate ∷ behind) = sym (append_assoc (record_bytes d) (opened done) rest) ∙ e ∙ append_assoc (record_bytes r) (opened records) (gate ∷ behind) in
    let s = same_front d r (opened done ++ rest) (opened records ++ gate ∷ behind) (All-head Short d done sd) (All-head Short r records sr) f in
    let w = walked done rest records gate behind (All-tail Short d done sd) (All-tail Short r records sr) ne s.1 in
    record { more = w.more; parts = ap (λ (x : List ℕ). x ∷ records) (sym s.0) ∙ ap (λ (xs : List (List ℕ)). d ∷ xs) w.parts; short = w.short; rest_is = w.rest_is }

-- an image that was walked to a place
walked_image : (image : List ℕ) (done : List (List ℕ)) (rest : List ℕ) (records : List (List ℕ)) (h : HasRecords image records) → image ≡ codes "OTJ1" ++ (opened done ++ rest) → All Short done → Walked done rest records (h.gate ∷ h.behind)
walked_image image done rest records h e short =
    walked done rest records h.gate h.behind short h.short h.closed (append_cancel_left (codes "OTJ1") (opened done ++ rest) (opened records ++ h.gate ∷ h.behind) (sym e ∙ h.image_is))

-- where what stands next is cut short, the image has no records
pub cut_has_none : (image : List ℕ) (done : List (List ℕ)) (rest : List ℕ) → image ≡ codes "OTJ1" ++ (opened done ++ rest) → All Short done → IsCut rest → IsNoLog image
cut_has_none image done rest e short cut records h =
    let w = walked_image image done rest records h e short in
    go w.more w.short w.rest_is
  where
    go : (more : List (List ℕ)) → All Short more → rest ≡ opened more ++ h.gate ∷ h.behind → ⊥
    go [] s is = cut.no_gate (record { gate = h.gate; behind = h.behind; parts = is; closed = h.closed })
    go (m ∷ more) s is =
        cut.no_record m (opened more ++ h.gate ∷ h.behind)
        (record {
          parts = is ∙ append_assoc (record_bytes m) (opened more) (h.gate ∷ h.behind);
          short = All-head Short m more s;
          more = omega (arith, length-append (opened more) (h.gate ∷ h.behind));
        })

-- an image that doesn't begin so has none
pub unmarked_has_none : (image : List ℕ) → ((rest : List ℕ) → image ≡ codes "OTJ1" ++ rest → ⊥) → IsNoLog image
unmarked_has_none image none records h = none (opened records ++ h.gate ∷ h.behind) h.image_is

-- an image has one list of records
pub one_list : (image : List ℕ) (a b : List (List ℕ)) → HasRecords image a → HasRecords image b → a ≡ b
one_list image a b ha hb =
    let w = walked_image image a (ha.gate ∷ ha.behind) b hb ha.image_is ha.short in
    go w.more w.parts w.rest_is
  where
    go : (more : List (List ℕ)) → b ≡ a ++ more → ha.gate ∷ ha.behind ≡ opened more ++ hb.gate ∷ hb.behind → a ≡ b
    go [] parts is = sym (parts ∙ append-nil a)
    go (m ∷ more) parts is = absurd (ha.closed (ap (λ (s : List ℕ). get_or s 0 0) is))

-- where a closed gate stands next, those that were walked are all
pub closed_has : (image : List ℕ) (done : List (List ℕ)) (rest : List ℕ) → image ≡ codes "OTJ1" ++ (opened done ++ rest) → All Short done → IsClosed rest → HasRecords image done
closed_has image done rest e short c = record { gate = c.gate; behind = c.behind; closed = c.closed; short = short; image_is = e ∙ ap (λ (s : List ℕ). codes "OTJ1" ++ (opened done ++ s)) c.parts }

opened_push : (done : List (List ℕ)) (bytes : List ℕ) → opened (done ++ bytes ∷ []) ≡ opened done ++ record_bytes bytes
opened_push [] bytes = append-nil (record_bytes bytes)
opened_push (d ∷ done) bytes = ap (λ (s : List ℕ). record_bytes d ++ s) (opened_push done bytes) ∙ sym (append_assoc (record_bytes d) (opened done) (record_bytes bytes))

-- one record more is walked
pub walk_on : (image : List ℕ) (done : List (List ℕ)) (rest bytes behind : List ℕ) → image ≡ codes "OTJ1" ++ (opened done ++ rest) → IsOpened rest bytes behind → image ≡ codes "OTJ1" ++ (opened (done ++ bytes ∷ []) ++ behind)
walk_on image done rest bytes behind e o =
    e
    ∙ ap (λ (s : List ℕ). codes "OTJ1" ++ (opened done ++ s)) o.parts
    ∙ ap (λ (s : List ℕ). codes "OTJ1" ++ s) (sym (append_assoc (opened done) (record_bytes bytes) behind) ∙ ap (λ (s : List ℕ). s ++ behind) (sym (opened_push done bytes)))

pub short_on : (done : List (List ℕ)) (rest bytes behind : List ℕ) → All Short done → IsOpened rest bytes behind → All Short (done ++ bytes ∷ [])
short_on done rest bytes behind short o = All-push Short done bytes short o.short

-- a record takes three bytes or more
pub opened_len : (records : List (List ℕ)) → length records ≤ length (opened records)
opened_len [] = omega arith
opened_len (r ∷ records) = omega (arith, opened_len records, length-append (record_bytes r) (opened records))

-- fewer records were walked than the image has bytes
pub walked_len : (image : List ℕ) (done : List (List ℕ)) (rest : List ℕ) → image ≡ codes "OTJ1" ++ (opened done ++ rest) → length done + 4 ≤ length image
walked_len image done rest e =
    let l : length image ≡ length (codes "OTJ1" ++ (opened done ++ rest)) = ap length e in
    omega (arith, l, length-append (codes "OTJ1") (opened done ++ rest), length-append (opened done) rest, opened_len done)

-- what begins with the mark is the mark and the rest
pub marked : (image rest : List ℕ) → bytes_eq (take 4 image) (codes "OTJ1") ≡ true → rest ≡ drop 4 image → image ≡ codes "OTJ1" ++ (opened [] ++ rest)
marked image rest test is =
    sym (take-append-drop 4 image)
    ∙ ap (λ (s : List ℕ). s ++ drop 4 image) ((bytes_eq-Decides (take 4 image) (codes "OTJ1")).0 test)
    ∙ ap (λ (s : List ℕ). codes "OTJ1" ++ s) (sym is)
