-- Bytes put one part after the other.
use Rattle.std.proofs.Common.{◌≡◌, ℕ, ◌+◌, ◌≤◌, List, ◌++◌, length, take, drop, sym, ap, ◌∙◌}
use Rattle.std.proofs.lemmas.List.{take_at, drop_at, drop-drop, take-append-drop, length-append, length-take-le}

-- a buffer begins with a front of a length, and is after it as a base is
pub record IsFront (front : List ℕ) (at : ℕ) (base out : List ℕ) : Type 0 where
  pub long : length front ≡ at
  pub is : out ≡ front ++ drop at base

-- what stands before a place of a buffer
pub at_first : (at : ℕ) (out : List ℕ) → at ≤ length out → IsFront (take at out) at out out
at_first at out within = record { long = length-take-le at out within; is = sym (take-append-drop at out) }

-- a part more
pub on : (front part base one two : List ℕ) (at end : ℕ) → IsFront front at base one → end ≡ at + length part → two ≡ take at one ++ part ++ drop (at + length part) one → IsFront (front ++ part) end base two
on front part base one two at end before there put =
    let here : take at one ≡ front = ap (λ (x : List ℕ). take at x) before.is ∙ take_at front (drop at base) at before.long in
    let behind : drop at one ≡ drop at base = ap (λ (x : List ℕ). drop at x) before.is ∙ drop_at front (drop at base) at before.long in
    let rest : drop (at + length part) one ≡ drop end base = sym (drop-drop (length part) at one) ∙ ap (λ (x : List ℕ). drop (length part) x) behind ∙ drop-drop (length part) at base ∙ ap (λ (n : ℕ). drop n base) (sym there) in
    record {
      long = length-append front part ∙ ap (λ (n : ℕ). n + length part) before.long ∙ sym there;
      is = put ∙ ap (λ (x : List ℕ). x ++ part ++ drop (at + length part) one) here ∙ ap (λ (x : List ℕ). front ++ part ++ x) rest;
    }
