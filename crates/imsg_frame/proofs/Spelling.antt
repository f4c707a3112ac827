-- A spelling is that of one message, whatever follows it.
use Rattle.std.proofs.Common.{◌≡◌, ℕ, ◌+◌, ◌*◌, ◌/◌, ◌%◌, ◌<◌, ◌≤◌, ◌^◌, List, ◌++◌, length, take, drop, refl, sym, ap, ◌∙◌, append_assoc, arith, lit≤, lit<, zero, suc, [], ◌∷◌, get_or}
use Rattle.std.specs.Int.{w16, w32, from_le_bytes, to_le_bytes}
use Rattle.std.specs.List.{between}
use Rattle.std.proofs.lemmas.Slice.{between_from_start}
use Rattle.std.proofs.lemmas.List.{append_cancel_left, length-append, take_at, drop_at}
use Rattle.imsg_frame.proofs.Arrays.{take-between}
use Rattle.std.proofs.lemmas.Nat.{from_le_bytes-to_le_bytes_2, from_le_bytes-to_le_bytes_4, le_bytes_4}
use Rattle.request_catalogue.specs.declared.width.Width.{Width}
use Rattle.request_catalogue.specs.declared.width.Width.TheVariants as widths
use Rattle.imsg_frame.specs.declared.header.Header.{Header}
use Rattle.imsg_frame.specs.Fields.{len_bytes, length_field}
use Rattle.imsg_frame.specs.Message.{Message, header_bytes, spelling_of, FitsFields, IsMessage, NarrowIsWide, composed_of}

pub length-header_bytes : (width : Width) (h : Header) → length (header_bytes width h) ≡ 16
unfolding header_bytes len_bytes
length-header_bytes widths.Narrow h = refl
length-header_bytes widths.Wide h = refl

pub length-spelling_of : (width : Width) (m : Message) → length (spelling_of width m) ≡ 16 + length m.body
unfolding spelling_of
length-spelling_of width m = omega (arith, length-append (header_bytes width m.header) m.body, length-header_bytes width m.header)

abbrev header_with : ℕ → ℕ → ℕ → ℕ → ℕ → Header
header_with kind len flags peerid pid = record { kind = kind; len = len; flags = flags; peerid = peerid; pid = pid }

-- the flags in the header that bytes begin with
unfoldable flags_field : Width → List ℕ → ℕ
flags_field widths.Narrow bytes = from_le_bytes w16 (take 2 (drop 6 bytes))
flags_field widths.Wide bytes = from_le_bytes w32 (take 4 (drop 4 bytes)) / 2 ^ 31

-- the header that bytes begin with
abbrev header_of : Width → List ℕ → Header
header_of width bytes =
    header_with (from_le_bytes w32 (take 4 bytes)) (length_field width bytes) (flags_field width bytes) (from_le_bytes w32 (take 4 (drop 8 bytes))) (from_le_bytes w32 (take 4 (drop 12 bytes)))

same_fields : (k l f e p : ℕ) (h : Header) → k ≡ h.kind → l ≡ h.len → f ≡ h.flags → e ≡ h.peerid → p ≡ h.pid → header_with k l f e p ≡ h
same_fields k l f e p h kind len flags peerid pid = rw (kind, len, flags, peerid, pid) refl

-- a length and a mark are read off their sum
low_part : (len flags : ℕ) → len < 2 ^ 31 → (len + 2 ^ 31 * flags) % 2 ^ 31 ≡ len
low_part len flags lt = omega arith

high_part : (len flags : ℕ) → len < 2 ^ 31 → (len + 2 ^ 31 * flags) / 2 ^ 31 ≡ flags
high_part len flags lt = omega arith

-- the len field of a header's bytes
pub length_field-header_bytes : (width : Width) (h : Header) (rest : List ℕ) → FitsFields width h → length_field width (header_bytes width h ++ rest) ≡ h.len
unfolding length_field header_bytes len_bytes
length_field-header_bytes widths.Narrow h rest fits = from_le_bytes-to_le_bytes_2 h.len fits.len
length_field-header_bytes widths.Wide h rest fits =
    let len = fits.len in
    let flags = fits.flags in
    ap (λ (n : ℕ). n % 2 ^ 31) (from_le_bytes-to_le_bytes_4 (h.len + 2 ^ 31 * h.flags) (omega arith)) ∙ low_part h.len h.flags len

-- and its flags
flags_field-header_bytes : (width : Width) (h : Header) (rest : List ℕ) → FitsFields width h → flags_field width (header_bytes width h ++ rest) ≡ h.flags
unfolding flags_field header_bytes len_bytes
flags_field-header_bytes widths.Narrow h rest fits = from_le_bytes-to_le_bytes_2 h.flags fits.flags
flags_field-header_bytes widths.Wide h rest fits =
    let len = fits.len in
    let flags = fits.flags in
    ap (λ (n : ℕ). n / 2 ^ 31) (from_le_bytes-to_le_bytes_4 (h.len + 2 ^ 31 * h.flags) (omega arith)) ∙ high_part h.len h.flags len

-- and its other numbers
record OtherFields (bytes : List ℕ) (h : Header) : Type 0 where
  kind : from_le_bytes w32 (take 4 bytes) ≡ h.kind
  peerid : from_le_bytes w32 (take 4 (drop 8 bytes)) ≡ h.peerid
  pid : from_le_bytes w32 (take 4 (drop 12 bytes)) ≡ h.pid

OtherFields-header_bytes : (width : Width) (h : Header) (rest : List ℕ) → FitsFields width h → OtherFields (header_bytes width h ++ rest) h
unfolding header_bytes len_bytes
OtherFields-header_bytes widths.Narrow h rest fits = record { kind = from_le_bytes-to_le_bytes_4 h.kind fits.kind; peerid = from_le_bytes-to_le_bytes_4 h.peerid fits.peerid; pid = from_le_bytes-to_le_bytes_4 h.pid fits.pid }
OtherFields-header_bytes widths.Wide h rest fits = record { kind = from_le_bytes-to_le_bytes_4 h.kind fits.kind; peerid = from_le_bytes-to_le_bytes_4 h.peerid fits.peerid; pid = from_le_bytes-to_le_bytes_4 h.pid fits.pid }

header_of-header_bytes : (width : Width) (h : Header) (rest : List ℕ) → FitsFields width h → header_of width (header_bytes width h ++ rest) ≡ h
header_of-header_bytes width h rest fits =
    let others = OtherFields-header_bytes width h rest fits in
    same_fields _ _ _ _ _ h others.kind (length_field-header_bytes width h rest fits) (flags_field-header_bytes width h rest fits) others.peerid others.pid

pub length_field-spelling_of : (width : Width) (m : Message) (rest : List ℕ) → FitsFields width m.header → length_field width (spelling_of width m ++ rest) ≡ m.header.len
unfolding spelling_of
length_field-spelling_of width m rest fits =
    ap (length_field width) (append_assoc (header_bytes width m.header) m.body rest) ∙ length_field-header_bytes width m.header (m.body ++ rest) fits

same_header : (width : Width) (m n : Message) (x y : List ℕ) → FitsFields width m.header → FitsFields width n.header → spelling_of width m ++ x ≡ spelling_of width n ++ y → m.header ≡ n.header
unfolding spelling_of
same_header width m n x y p q e =
    let regrouped : header_bytes width m.header ++ (m.body ++ x) ≡ header_bytes width n.header ++ (n.body ++ y) =
    sym (append_assoc (header_bytes width m.header) m.body x) ∙ e ∙ append_assoc (header_bytes width n.header) n.body y in
    sym (header_of-header_bytes width m.header (m.body ++ x) p) ∙ ap (header_of width) regrouped ∙ header_of-header_bytes width n.header (n.body ++ y) q

same_parts : (m n : Message) → m.header ≡ n.header → m.body ≡ n.body → m ≡ n
same_parts m n header body =
    let with_header : Header → Message = λ h. record { header = h; body = m.body } in
    let with_body : List ℕ → Message = λ b. record { header = n.header; body = b } in
    ap with_header header ∙ ap with_body body

-- of two messages at the same front, with what follows them
pub one_message : (width : Width) (max limit : ℕ) (m n : Message) (x y : List ℕ) → IsMessage width max m → IsMessage width limit n → spelling_of width m ++ x ≡ spelling_of width n ++ y → (m ≡ n) × (x ≡ y)
unfolding spelling_of
one_message width max limit m n x y p q e =
    let header = same_header width m n x y p.fields q.fields e in
    let regrouped : header_bytes width m.header ++ (m.body ++ x) ≡ header_bytes width m.header ++ (n.body ++ y) =
    sym (append_assoc (header_bytes width m.header) m.body x) ∙ e ∙ append_assoc (header_bytes width n.header) n.body y ∙ ap (λ (h : Header). header_bytes width h ++ (n.body ++ y)) (sym header) in
    let behind = append_cancel_left (header_bytes width m.header) (m.body ++ x) (n.body ++ y) regrouped in
    let same_len : m.header.len ≡ n.header.len = ap (λ (h : Header). h.len) header in
    let len : length n.body ≡ length m.body = omega (arith, p.len, q.len) in
    let body : m.body ≡ n.body = sym (take_at m.body x (length m.body) refl) ∙ ap (take (length m.body)) behind ∙ take_at n.body y (length m.body) len in
    let rest : x ≡ y = sym (drop_at m.body x (length m.body) refl) ∙ ap (drop (length m.body)) behind ∙ drop_at n.body y (length m.body) len in
    (same_parts m n header body, rest)

-- four parts of the first 16 bytes are those bytes
header_bytes-from_parts : (bytes kind len peerid pid : List ℕ) → kind ≡ between 0 4 bytes → len ≡ between 4 8 bytes → peerid ≡ between 8 12 bytes → pid ≡ between 12 16 bytes → kind ++ len ++ peerid ++ pid ≡ take 16 bytes
header_bytes-from_parts bytes kind len peerid pid k l e p =
    rw (k, l, e, p, between_from_start bytes 4, take-between 4 8 bytes (lit≤ tt), take-between 8 12 bytes (lit≤ tt), take-between 12 16 bytes (lit≤ tt)) refl

-- a header whose fields were read from these bytes
pub header_bytes-from_fields : (width : Width) (bytes : List ℕ) (h : Header) → to_le_bytes w32 h.kind ≡ between 0 4 bytes → len_bytes width h.len h.flags ≡ between 4 8 bytes → to_le_bytes w32 h.peerid ≡ between 8 12 bytes → to_le_bytes w32 h.pid ≡ between 12 16 bytes → header_bytes width h ≡ take 16 bytes
unfolding header_bytes
header_bytes-from_fields width bytes h k l e p = header_bytes-from_parts bytes (to_le_bytes w32 h.kind) (len_bytes width h.len h.flags) (to_le_bytes w32 h.peerid) (to_le_bytes w32 h.pid) k l e p

-- ---- the two widths

-- two bytes, and two more that are 0
four_bytes : (a b : ℕ) → a < 256 → b < 256 → (i : ℕ) → get_or (a ∷ b ∷ 0 ∷ 0 ∷ []) i 0 < 256
four_bytes a b p q zero = p
four_bytes a b p q (suc zero) = q
four_bytes a b p q (suc (suc zero)) = lit< tt
four_bytes a b p q (suc (suc (suc zero))) = lit< tt
four_bytes a b p q (suc (suc (suc (suc i)))) = lit< tt

-- a narrow length with no flags is a wide one
len_bytes-alike : (len : ℕ) → len < 2 ^ 16 → len_bytes widths.Narrow len 0 ≡ len_bytes widths.Wide len 0
unfolding len_bytes
len_bytes-alike len lt =
    sym (le_bytes_4 (to_le_bytes w16 len ++ to_le_bytes w16 0) (len + 2 ^ 31 * 0) refl (four_bytes _ _ (omega arith) (omega arith)) (omega (arith, from_le_bytes-to_le_bytes_2 len lt)))

pub narrow_is_wide : NarrowIsWide
unfolding spelling_of header_bytes
narrow_is_wide max m right no_flags =
    let len = right.fields.len in
    let none : m.header.flags ≡ 0 = no_flags in (
      record { fields = record { kind = right.fields.kind; len = omega arith; flags = omega arith; peerid = right.fields.peerid; pid = right.fields.pid }; len = right.len; within = right.within },
      rw (none, len_bytes-alike m.header.len len) refl,
    )

-- a composed message is spelled alike in the two widths, if it fits the narrow one
pub spelling_of-alike : (width either : Width) (kind peerid pid : ℕ) (body : List ℕ) → kind < 2 ^ 32 → peerid < 2 ^ 32 → pid < 2 ^ 32 → length body ≤ 16368 → spelling_of width (composed_of kind peerid pid body) ≡ spelling_of either (composed_of kind peerid pid body)
spelling_of-alike width either kind peerid pid body k e p short =
    let right : IsMessage widths.Narrow 16384 (composed_of kind peerid pid body) = record { fields = record { kind = k; len = omega arith; flags = lit< tt; peerid = e; pid = p }; len = refl; within = omega arith } in
    either_way width either (composed_of kind peerid pid body) (narrow_is_wide 16384 (composed_of kind peerid pid body) right refl).1
  where
    either_way : (width either : Width) (m : Message) → spelling_of widths.Narrow m ≡ spelling_of widths.Wide m → spelling_of width m ≡ spelling_of either m
    either_way widths.Narrow widths.Narrow m same = refl
    either_way widths.Narrow widths.Wide m same = same
    either_way widths.Wide widths.Narrow m same = sym same
    either_way widths.Wide widths.Wide m same = refl

-- four bytes
pub four_parts : (l : List ℕ) → length l ≡ 4 → (a b c d : ℕ) × (l ≡ a ∷ b ∷ c ∷ d ∷ [])
four_parts (a ∷ b ∷ c ∷ d ∷ []) len = (a, b, c, d, refl)
four_parts (a ∷ b ∷ c ∷ d ∷ e ∷ l) len = absurd (omega arith)
four_parts (a ∷ b ∷ c ∷ []) len = absurd (omega arith)
four_parts (a ∷ b ∷ []) len = absurd (omega arith)
four_parts (a ∷ []) len = absurd (omega arith)
four_parts [] len = absurd (omega arith)
