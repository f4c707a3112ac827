-- A stream in pieces, and what is not yet fed of it.
use Rattle.std.proofs.Common.{◌≡◌, ℕ, ◌+◌, ◌<◌, List, [], ◌++◌, length, get_or, drop, sym, ap, subst, ◌∙◌, append_assoc, arith, inl, inr}
use Rattle.std.specs.Borrow.{Bor}
use Rattle.std.specs.List.{flat_map}
use Rattle.std.proofs.lemmas.List.{drop_more, length-drop}
use Rattle.std.proofs.lemmas.List.Concat.{flat_map-cons}
use Rattle.request_catalogue.specs.declared.width.Width.{Width}
use Rattle.imsg_frame.specs.Message.{Message}
use Rattle.imsg_frame.specs.Cut.{IsCut, IsLongestCut, IsLastFront, IsStop, IsBadFront, AddsCut}
use Rattle.imsg_frame.proofs.Cuts.{IsCut-append, IsCut-trans, IsLastFront-from_stop}

abbrev pub bytes_in : List (Bor (List ℕ)) → List ℕ
bytes_in pieces = flat_map (λ piece. piece.now) pieces

-- the piece at i was fed, but for what is left of it
pub IsCut-piece : (own width : Width) (limit max : ℕ) (stream : List ℕ) (before after : List Message) (held held_after left : List ℕ) (pieces : List (Bor (List ℕ))) (i : ℕ) (d : Bor (List ℕ)) → own ≡ width → limit ≡ max → i < length pieces
    → IsCut width max stream before (held ++ bytes_in (drop i pieces)) → AddsCut own limit before (held ++ (get_or pieces i d).now) after (held_after ++ left)
    → IsCut width max stream after (held_after ++ (left ++ bytes_in (drop (i + 1) pieces)))
IsCut-piece own width limit max stream before after held held_after left pieces i d same_width same lt cut adds =
    let piece = get_or pieces i d in
    let later = bytes_in (drop (i + 1) pieces) in
    let next : bytes_in (drop i pieces) ≡ piece.now ++ later = ap bytes_in (drop_more pieces i d lt) ∙ flat_map-cons (λ (p : Bor (List ℕ)). p.now) piece (drop (i + 1) pieces) in
    let regrouped : held ++ bytes_in (drop i pieces) ≡ (held ++ piece.now) ++ later = ap (λ (b : List ℕ). held ++ b) next ∙ sym (append_assoc held piece.now later) in
    let of_width : IsCut width limit (held ++ piece.now) adds.0 (held_after ++ left) = subst (λ (w : Width). IsCut w limit (held ++ piece.now) adds.0 (held_after ++ left)) same_width adds.2 in
    let fed = IsCut-append width max (held ++ piece.now) adds.0 (held_after ++ left) later (subst (λ (n : ℕ). IsCut width n (held ++ piece.now) adds.0 (held_after ++ left)) same of_width) in
    let whole = IsCut-trans width max stream before ((held ++ piece.now) ++ later) adds.0 ((held_after ++ left) ++ later) (subst (λ (b : List ℕ). IsCut width max stream before b) regrouped cut) fed in
    subst (λ (ms : List Message). IsCut width max stream ms (held_after ++ (left ++ later))) (sym adds.1) (subst (λ (b : List ℕ). IsCut width max stream (before ++ adds.0) b) (append_assoc held_after left later) whole)

-- reading stopped before the end of a piece
pub IsBadFront-from_stop : (width : Width) (max : ℕ) (held piece : List ℕ) (n : ℕ) → n < length piece → IsStop width max held (drop n piece) → (len : ℕ) × IsBadFront width max held len
IsBadFront-from_stop width max held piece n lt stop = elim stop [ inl p ↦ absurd (omega (arith, ap length p.1, length-drop n piece)) | inr b ↦ b ]

pub IsLastFront-held : (width : Width) (max : ℕ) (held unfed : List ℕ) → IsStop width max held unfed → IsLastFront width max held
IsLastFront-held width max held unfed stop = elim stop [ inl p ↦ inl p.0 | inr b ↦ inr b ]

pub IsStop-at_end : (width : Width) (max : ℕ) (held unfed : List ℕ) → unfed ≡ [] → IsLastFront width max held → IsStop width max held unfed
IsStop-at_end width max held unfed none last = elim last [ inl p ↦ inl (p, none) | inr b ↦ inr b ]

-- where reading stopped, the cut goes as far as there are frames
pub IsLongestCut-at_stop : (width : Width) (max : ℕ) (stream : List ℕ) (messages : List Message) (held unfed : List ℕ) → IsCut width max stream messages (held ++ unfed) → IsStop width max held unfed → IsLongestCut width max stream messages (held ++ unfed)
IsLongestCut-at_stop width max stream messages held unfed cut stop = record { cut = cut; last = IsLastFront-from_stop width max held unfed stop }
