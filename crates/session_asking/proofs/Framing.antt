-- A frame whose body was written before its header.
use Rattle.std.proofs.Common.{◌≡◌, ℕ, ◌+◌, ◌≤◌, List, ◌++◌, length, take, drop, sym, ap, ◌∙◌, append_assoc, arith, refl}
use Rattle.std.proofs.lemmas.List.{drop_at, take_at, length-append}
use Rattle.request_catalogue.specs.declared.width.Width.{Width}
use Rattle.request_catalogue.specs.declared.width.Width.TheVariants as widths
use Rattle.request_catalogue.specs.Widths.{frame_max}
use Rattle.imsg_frame.specs.declared.header.Header.{Header}
use Rattle.imsg_frame.specs.Message.{composed_of, header_bytes, spelling_of}
use Rattle.imsg_frame.proofs.Spelling.{length-header_bytes}

-- each frame has room for a header
pub has_header : (width : Width) → 16 ≤ frame_max width
has_header widths.Narrow = omega arith
has_header widths.Wide = omega arith

-- a body was written after a front, and then a head of the front's length in the front's place
framed : (k n : ℕ) (head front body behind rest out : List ℕ) → length head ≡ k → length front ≡ k → length body ≡ n
    → out ≡ head ++ drop k (front ++ ((body ++ behind) ++ rest)) → take (k + n) out ≡ head ++ body
framed k n head front body behind rest out head_len front_len body_len is =
    ap (take (k + n)) (is ∙ ap (λ (tail : List ℕ). head ++ tail) (drop_at front ((body ++ behind) ++ rest) k front_len ∙ append_assoc body behind rest)
    ∙ sym (append_assoc head body (behind ++ rest)))
    ∙ take_at (head ++ body) (behind ++ rest) (k + n) (length-append head body ∙ omega arith)

-- a reply's bytes were written after the room for a header, and then the header
pub is_framed : (width : Width) (kind given peerid pid n : ℕ) (reply front written behind rest out : List ℕ) → given ≡ kind → n ≡ length reply → written ≡ reply ++ behind
    → length front ≡ 16
    → out ≡ header_bytes width (record { kind = given; len = 16 + n; flags = 0; peerid = peerid; pid = pid }) ++ drop 16 (front ++ (written ++ rest))
    → take (16 + n) out ≡ spelling_of width (composed_of kind peerid pid reply)
unfolding spelling_of
is_framed width kind given peerid pid n reply front written behind rest out kind_is n_is written_is front_len is =
    let head : Header = record { kind = kind; len = 16 + length reply; flags = 0; peerid = peerid; pid = pid } in
    rw n_is (framed 16 (length reply) (header_bytes width head) front reply behind rest out (length-header_bytes width head) front_len refl
    (rw (sym kind_is, sym n_is, sym written_is) is))
