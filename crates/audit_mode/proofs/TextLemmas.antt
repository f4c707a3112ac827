-- The text of a file, and that a file has no other.
use Rattle.std.proofs.Common.{◌≡◌, ◌≢◌, ℕ, ◌<◌, ◌^◌, Bool, true, false, List, [], ◌∷◌, ◌++◌, codes, drop, get_or, length, take, refl, sym, ap, subst, ◌∙◌, append_assoc}
use Rattle.std.specs.Prelude.{All}
use Rattle.std.specs.Int.{w16, from_le_bytes, to_le_bytes}
use Rattle.std.specs.List.{concat}
use Rattle.std.proofs.lemmas.List.{append-nil, drop_at, take_at}
use Rattle.std.proofs.lemmas.List.Elements.{All-head, All-push, All-tail}
use Rattle.std.proofs.lemmas.List.Folds.{concat-append}
use Rattle.std.proofs.lemmas.Nat.{from_le_bytes-to_le_bytes_2}
use Rattle.durable_log.specs.Records.{HasRecords, opened, record_bytes}
use Rattle.audit_mode.specs.Texts.{IsAuditedText, IsRecordless, IsTextOfRecords, IsTextWhere, is_durable}

abbrev pub Short : List ℕ → Type 0
Short line = length line < 2 ^ 16

-- ---- reading

-- the records before a place were read
pub record IsReadTo (bytes rest text : List ℕ) : Type 0 where
  pub records : List (List ℕ)
  pub short : All Short records
  pub parts : bytes ≡ opened records ++ rest
  pub joined : text ≡ concat records

opened_push : (done : List (List ℕ)) (line : List ℕ) → opened (done ++ line ∷ []) ≡ opened done ++ record_bytes line
opened_push [] line = append-nil (record_bytes line)
opened_push (d ∷ done) line = ap (λ (s : List ℕ). record_bytes d ++ s) (opened_push done line) ∙ sym (append_assoc (record_bytes d) (opened done) (record_bytes line))

concat_push : (done : List (List ℕ)) (line : List ℕ) → concat (done ++ line ∷ []) ≡ concat done ++ line
concat_push done line = concat-append done (line ∷ []) ∙ ap (λ (s : List ℕ). concat done ++ s) (append-nil line)

pub read_on : (bytes rest text line behind new : List ℕ) → IsReadTo bytes rest text → Short line → rest ≡ record_bytes line ++ behind → new ≡ text ++ line → IsReadTo bytes behind new
read_on bytes rest text line behind new read short is more = record {
  records = read.records ++ line ∷ [];
  short = All-push Short read.records line read.short short;
  parts =
      read.parts
      ∙ ap (λ (s : List ℕ). opened read.records ++ s) is
      ∙ sym (append_assoc (opened read.records) (record_bytes line) behind)
      ∙ ap (λ (s : List ℕ). s ++ behind) (sym (opened_push read.records line));
  joined = more ∙ ap (λ (s : List ℕ). s ++ line) read.joined ∙ sym (concat_push read.records line);
}

-- ---- a file has one text

-- two whole records at one front are the same
same_front : (a b x y : List ℕ) → Short a → Short b → record_bytes a ++ x ≡ record_bytes b ++ y → (a ≡ b) × (x ≡ y)
same_front a b x y sa sb e =
    let rest : a ++ x ≡ b ++ y = ap (drop 3) e in
    let front : to_le_bytes w16 (length a) ≡ to_le_bytes w16 (length b) = ap (λ (s : List ℕ). take 2 (drop 1 s)) e in
    let same : length a ≡ length b = sym (from_le_bytes-to_le_bytes_2 (length a) sa) ∙ ap (from_le_bytes w16) front ∙ from_le_bytes-to_le_bytes_2 (length b) sb in
    (sym (take_at a x (length a) refl) ∙ ap (take (length a)) rest ∙ take_at b y (length a) (sym same), sym (drop_at a x (length a) refl) ∙ ap (drop (length a)) rest ∙ drop_at b y (length a) (sym same))

same_records : (a b : List (List ℕ)) (x y : List ℕ) → All Short a → All Short b → IsRecordless x → IsRecordless y → opened a ++ x ≡ opened b ++ y → a ≡ b
same_records [] [] x y sa sb lx ly e = refl
same_records [] (m ∷ b) x y sa sb lx ly e =
    absurd (lx m (opened b ++ y) (All-head Short m b sb) (e ∙ append_assoc (record_bytes m) (opened b) y))
same_records (m ∷ a) [] x y sa sb lx ly e =
    absurd (ly m (opened a ++ x) (All-head Short m a sa) (sym e ∙ append_assoc (record_bytes m) (opened a) x))
same_records (m ∷ a) (n ∷ b) x y sa sb lx ly e =
    let f : record_bytes m ++ (opened a ++ x) ≡ record_bytes n ++ (opened b ++ y) = sym (append_assoc (record_bytes m) (opened a) x) ∙ e ∙ append_assoc (record_bytes n) (opened b) y in
    let s = same_front m n (opened a ++ x) (opened b ++ y) (All-head Short m a sa) (All-head Short n b sb) f in
    let rest = same_records a b x y (All-tail Short m a sa) (All-tail Short n b sb) lx ly s.1 in
    ap (λ (l : List ℕ). l ∷ a) s.0 ∙ ap (λ (l : List (List ℕ)). n ∷ l) rest

one_text_of_records : (bytes a b : List ℕ) → IsTextOfRecords bytes a → IsTextOfRecords bytes b → a ≡ b
one_text_of_records bytes a b ta tb =
    let wa = ta.whole in
    let wb = tb.whole in
    ta.joined ∙ ap concat (same_records ta.records tb.records wa.rest wb.rest wa.short wb.short wa.last wb.last (sym wa.parts ∙ wb.parts)) ∙ sym tb.joined

one_text_where : (durable : Bool) (bytes a b : List ℕ) → IsTextWhere durable bytes a → IsTextWhere durable bytes b → a ≡ b
one_text_where true bytes a b ta tb = one_text_of_records (drop 4 bytes) a b ta tb
one_text_where false bytes a b ta tb = ta ∙ sym tb

pub one_text : (bytes a b : List ℕ) → IsAuditedText bytes a → IsAuditedText bytes b → a ≡ b
one_text bytes a b = one_text_where (is_durable bytes) bytes a b

-- ---- the records of recovery

-- no record stands in front of a closed gate
closed_none : (gate : ℕ) (behind : List ℕ) → gate ≢ 1 → IsRecordless (gate ∷ behind)
closed_none gate behind closed line more short e = closed (ap (λ (s : List ℕ). get_or s 0 0) e)

image_text : (records : List (List ℕ)) (gate : ℕ) (behind : List ℕ) → All Short records → gate ≢ 1 → IsAuditedText (codes "OTJ1" ++ (opened records ++ gate ∷ behind)) (concat records)
image_text records gate behind short closed = record {
  records = records;
  whole = record { rest = gate ∷ behind; short = short; parts = refl; last = closed_none gate behind closed };
  joined = refl;
}

-- of an image that recovery reads, the text is the lines of its records
pub text_of_image : (image text : List ℕ) (records : List (List ℕ)) → IsAuditedText image text → HasRecords image records → text ≡ concat records
text_of_image image text records is has =
    one_text image text (concat records) is (subst (λ (b : List ℕ). IsAuditedText b (concat records)) (sym has.image_is) (image_text records has.gate has.behind has.short has.closed))
