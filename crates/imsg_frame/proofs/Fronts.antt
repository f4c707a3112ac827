-- What stands in front has one answer.
use Rattle.std.proofs.Common.{◌≡◌, ℕ, ◌+◌, ◌<◌, ◌≤◌, ◌^◌, ◌%◌, min, List, ◌++◌, length, take, drop, refl, sym, ap, subst, ◌∙◌, arith, inl, inr, lit<}
use Rattle.std.proofs.Common.{◌⊎◌}
use Rattle.std.specs.List.{between}
use Rattle.std.specs.Int.{w16, w32, from_le_bytes}
use Rattle.std.proofs.lemmas.List.{length-append, append_cancel_left, drop-append-le, take-append-le, length-drop, take-append-drop, take-take}
use Rattle.std.proofs.lemmas.Bool.{cases_lt}
use Rattle.std.proofs.lemmas.List.Edits.{length-between}
use Rattle.request_catalogue.specs.declared.width.Width.{Width}
use Rattle.request_catalogue.specs.declared.width.Width.TheVariants as widths
use Rattle.request_catalogue.specs.Widths.{frame_max}
use Rattle.imsg_frame.specs.declared.header.Header.{Header}
use Rattle.imsg_frame.specs.declared.reader.Next.{Next}
use Rattle.imsg_frame.specs.declared.reader.Next.TheVariants as next
use Rattle.imsg_frame.specs.Message.{Message, header_bytes, spelling_of, composed_of, FitsFields, IsMessage}
use Rattle.imsg_frame.specs.Held.{Held}
use Rattle.imsg_frame.specs.Fields.{length_field}
use Rattle.imsg_frame.specs.Cut.{IsWholeFront, IsPartialFront, IsBadFront, IsShortFront}
use Rattle.imsg_frame.specs.Answer.{IsFrameOf, IsAnswer, AfterNext, ReadsBack, given_as}
use Rattle.imsg_frame.proofs.Spelling.{length-spelling_of, length_field-header_bytes, length_field-spelling_of, one_message}
use Rattle.imsg_frame.proofs.Arrays.{three_parts}

-- the lengths at a whole front
record HasLen (width : Width) (max : ℕ) (bytes : List ℕ) : Type 0 where
  low : 16 ≤ length_field width bytes
  high : length_field width bytes ≤ max
  whole : length_field width bytes ≤ length bytes

HasLen-from_whole : (width : Width) (max : ℕ) (bytes : List ℕ) (m : Message) → IsWholeFront width max bytes m → HasLen width max bytes
HasLen-from_whole width max bytes m w =
    let field : length_field width bytes ≡ m.header.len = ap (length_field width) w.front.1 ∙ length_field-spelling_of width m w.front.0 w.right.fields in
    let total = ap length w.front.1 in
    let parts = length-append (spelling_of width m) w.front.0 in
    let own = length-spelling_of width m in
    let len = w.right.len in
    let within = w.right.within in
    record { low = omega arith; high = omega arith; whole = omega arith }

pub whole_not_partial : (width : Width) (max : ℕ) (bytes : List ℕ) (m : Message) → IsWholeFront width max bytes m → IsPartialFront width max bytes → ⊥
whole_not_partial width max bytes m w p =
    let l = HasLen-from_whole width max bytes m w in
    elim p [ inl lt ↦ absurd (omega arith) | inr s ↦ absurd (omega (arith, s.short)) ]

pub whole_not_bad : (width : Width) (max : ℕ) (bytes : List ℕ) (m : Message) (len : ℕ) → IsWholeFront width max bytes m → IsBadFront width max bytes len → ⊥
whole_not_bad width max bytes m len w b =
    let l = HasLen-from_whole width max bytes m w in
    elim b.wrong [ inl lt ↦ absurd (omega arith) | inr gt ↦ absurd (omega arith) ]

pub partial_not_bad : (width : Width) (max : ℕ) (bytes : List ℕ) (len : ℕ) → IsPartialFront width max bytes → IsBadFront width max bytes len → ⊥
partial_not_bad width max bytes len p b =
    let header = b.header in
    elim p [
      | inl lt ↦ absurd (omega arith)
      | inr s ↦ elim b.wrong [ inl lt ↦ absurd (omega (arith, s.low)) | inr gt ↦ absurd (omega (arith, s.high)) ]
    ]

-- a reader of at least 16 bytes has room after less than a frame
pub partial_has_room : (width : Width) (max : ℕ) (bytes : List ℕ) → 16 ≤ max → IsPartialFront width max bytes → length bytes < max
partial_has_room width max bytes low p = elim p [ inl lt ↦ omega arith | inr s ↦ omega (arith, s.high, s.short) ]

-- the len field stands in the first 16 bytes
length_field-append : (width : Width) (bytes more : List ℕ) → 16 ≤ length bytes → length_field width (bytes ++ more) ≡ length_field width bytes
unfolding length_field
length_field-append widths.Narrow bytes more long =
    ap (from_le_bytes w16) (ap (take 2) (drop-append-le 4 bytes more (omega arith)) ∙ take-append-le 2 (drop 4 bytes) more (omega (arith, length-drop 4 bytes)))
length_field-append widths.Wide bytes more long =
    ap (λ (x : List ℕ). from_le_bytes w32 x % 2 ^ 31) (ap (take 4) (drop-append-le 4 bytes more (omega arith)) ∙ take-append-le 4 (drop 4 bytes) more (omega (arith, length-drop 4 bytes)))

-- bytes that come after a bad header leave it bad
pub IsBadFront-append : (width : Width) (max : ℕ) (bytes more : List ℕ) (len : ℕ) → IsBadFront width max bytes len → IsBadFront width max (bytes ++ more) len
IsBadFront-append width max bytes more len b =
    let same = length_field-append width bytes more b.header in
    record { header = omega (arith, b.header, length-append bytes more); field = rw same b.field; wrong = rw same b.wrong }

-- ---- the answers

pub answer_frame : (width : Width) (max : ℕ) (bytes given : List ℕ) (h : Header) → IsWholeFront width max bytes (given_as h given) → IsAnswer width max bytes given (next.Frame h)
answer_frame width max bytes given h w = record {
  frame = λ m. (λ e. subst (λ (n : Message). IsWholeFront width max bytes n) e w, λ v. (one_message width max max (given_as h given) m w.front.0 v.front.0 w.right v.right (sym w.front.1 ∙ v.front.1)).0);
  not_yet = (λ e. absurd cc, λ p. absurd (whole_not_partial width max bytes (given_as h given) w p));
  bad = λ len. (λ e. absurd cc, λ b. absurd (whole_not_bad width max bytes (given_as h given) len w b));
}

pub answer_not_yet : (width : Width) (max : ℕ) (bytes given : List ℕ) → IsPartialFront width max bytes → IsAnswer width max bytes given next.NotYet
answer_not_yet width max bytes given p = record {
  frame = λ m. (λ e. absurd e, λ w. whole_not_partial width max bytes m w p);
  not_yet = (λ _. p, λ _. refl);
  bad = λ len. (λ e. absurd cc, λ b. absurd (partial_not_bad width max bytes len p b));
}

pub answer_bad : (width : Width) (max : ℕ) (bytes given : List ℕ) (len : ℕ) → IsBadFront width max bytes len → IsAnswer width max bytes given (next.Bad len)
answer_bad width max bytes given len b = record {
  frame = λ m. (λ e. absurd e, λ w. whole_not_bad width max bytes m len w b);
  not_yet = (λ e. absurd cc, λ p. absurd (partial_not_bad width max bytes len p b));
  bad = λ n. (λ e. let same : len ≡ n = cc in subst (λ (k : ℕ). IsBadFront width max bytes k) same b, λ other. ap next.Bad (sym b.field ∙ other.field));
}

-- ---- what was composed is read

-- a frame's length is told by each width
pub FitsFields-composed : (width : Width) (kind peerid pid : ℕ) (body : List ℕ) → kind < 2 ^ 32 → peerid < 2 ^ 32 → pid < 2 ^ 32 → 16 + length body ≤ frame_max width → FitsFields width (composed_of kind peerid pid body).header
FitsFields-composed widths.Narrow kind peerid pid body k e p within = record { kind = k; len = omega arith; flags = lit< tt; peerid = e; pid = p }
FitsFields-composed widths.Wide kind peerid pid body k e p within = record { kind = k; len = omega arith; flags = lit< tt; peerid = e; pid = p }

after_frame : (width : Width) (max : ℕ) (m : Message) (rest before : List ℕ) (answer : Next) (after : Held) → IsFrameOf m after.given answer → AfterNext (record { width = width; max = max; given = before; bytes = spelling_of width m ++ rest }) answer after → after ≡ record { width = width; max = max; given = spelling_of width m; bytes = rest }
after_frame width max m rest before (next.Frame h) after e a =
    let behind : spelling_of width m ++ rest ≡ spelling_of width m ++ after.bytes = subst (λ (n : Message). spelling_of width m ++ rest ≡ spelling_of width n ++ after.bytes) e a.bytes in
    let bytes : after.bytes ≡ rest = sym (append_cancel_left (spelling_of width m) rest after.bytes behind) in
    let given : after.given ≡ spelling_of width m = a.given ∙ ap (spelling_of width) e in
    ap (λ (w : Width). record { width = w; max = after.max; given = after.given; bytes = after.bytes }) a.width
    ∙ ap (λ (n : ℕ). record { width = width; max = n; given = after.given; bytes = after.bytes }) a.max
    ∙ ap (λ (g : List ℕ). record { width = width; max = max; given = g; bytes = after.bytes }) given
    ∙ ap (λ (b : List ℕ). record { width = width; max = max; given = spelling_of width m; bytes = b }) bytes
after_frame width max m rest before next.NotYet after e a = absurd e
after_frame width max m rest before (next.Bad len) after e a = absurd e

pub reads_back : ReadsBack
reads_back width max kind peerid pid body rest before answer after fits_kind fits_peerid fits_pid within high is_answer goes =
    let m : Message = composed_of kind peerid pid body in
    let right : IsMessage width max m = record { fields = FitsFields-composed width kind peerid pid body fits_kind fits_peerid fits_pid (omega arith); len = refl; within = within } in
    let is_frame : IsFrameOf m after.given answer = (is_answer.frame m).1 (record { right = right; front = (rest, refl) }) in
    (is_frame, after_frame width max m rest before answer after is_frame goes)

-- ---- what a header tells of the bytes that it was read from

pub length_field-from_header : (width : Width) (bytes : List ℕ) (h : Header) → header_bytes width h ≡ take 16 bytes → FitsFields width h → length_field width bytes ≡ h.len
length_field-from_header width bytes h e fits =
    let parts : bytes ≡ header_bytes width h ++ drop 16 bytes = sym (ap (λ (front : List ℕ). front ++ drop 16 bytes) e ∙ take-append-drop 16 bytes) in
    ap (length_field width) parts ∙ length_field-header_bytes width h (drop 16 bytes) fits

pub IsBadFront-from_header : (width : Width) (max : ℕ) (bytes : List ℕ) (h : Header) → 16 ≤ length bytes → header_bytes width h ≡ take 16 bytes → FitsFields width h → (h.len < 16) ⊎ (max < h.len) → IsBadFront width max bytes (min h.len 65535)
IsBadFront-from_header width max bytes h long e fits wrong =
    let field = length_field-from_header width bytes h e fits in
    record { header = long; field = ap (λ (n : ℕ). min n 65535) field; wrong = rw field wrong }

pub IsShortFront-from_header : (width : Width) (max : ℕ) (bytes : List ℕ) (h : Header) → header_bytes width h ≡ take 16 bytes → FitsFields width h → 16 ≤ h.len → h.len ≤ max → length bytes < h.len → IsShortFront width max bytes
IsShortFront-from_header width max bytes h e fits low high short =
    let field = length_field-from_header width bytes h e fits in
    record { low = omega arith; high = omega arith; short = omega arith }

-- the bytes are the message's spelling, and then the rest
pub record Parts (width : Width) (max : ℕ) (bytes : List ℕ) (m : Message) (rest : List ℕ) : Type 0 where
  pub right : IsMessage width max m
  pub is : bytes ≡ spelling_of width m ++ rest

pub Parts-from_header : (width : Width) (max : ℕ) (bytes : List ℕ) (h : Header) (body rest : List ℕ) → header_bytes width h ≡ take 16 bytes → FitsFields width h → 16 ≤ h.len → h.len ≤ max → h.len ≤ length bytes
    → body ≡ between 16 h.len bytes → rest ≡ drop h.len bytes → Parts width max bytes (record { header = h; body = body }) rest
unfolding spelling_of
Parts-from_header width max bytes h body rest e fits low high whole body_is rest_is = record {
  right = record { fields = fits; len = omega (arith, ap length body_is, length-between bytes 16 h.len whole); within = high };
  is = three_parts 16 h.len bytes low ∙ rw (← e, ← body_is, ← rest_is) refl;
}

-- the front of a header's length is the spelling of the message that it has
pub spelled : (width : Width) (bytes : List ℕ) (h : Header) → header_bytes width h ≡ take 16 bytes → 16 ≤ h.len → take h.len bytes ≡ spelling_of width (given_as h (take h.len bytes))
unfolding spelling_of
spelled width bytes h e low =
    sym (take-append-drop 16 (take h.len bytes)) ∙ ap (λ (front : List ℕ). front ++ drop 16 (take h.len bytes)) (take-take 16 h.len bytes low ∙ sym e)

-- a length that isn't right
pub wrong_len : (len max : ℕ) → ((16 ≤ len) × (len ≤ max) → ⊥) → (len < 16) ⊎ (max < len)
wrong_len len max not_right =
    elim (cases_lt len 16) [
      | inl lt ↦ inl lt
      | inr low ↦ elim (cases_lt max len) [ inl gt ↦ inr gt | inr high ↦ absurd (not_right (low, high)) ]
    ]

-- a length of at least a header's that a front doesn't have
pub not_whole : (len held : ℕ) → 16 ≤ len → ((16 ≤ len) × (len ≤ held) → ⊥) → held < len
not_whole len held low not_right = elim (cases_lt held len) [ inl lt ↦ lt | inr high ↦ absurd (not_right (low, high)) ]
