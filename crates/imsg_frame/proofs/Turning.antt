-- A list whose first items are moved after its last ones.
use Rattle.std.proofs.Common.{◌≡◌, ℕ, ◌+◌, ◌-◌, ◌≤◌, List, ◌++◌, length, take, drop, min, sym, ap, ◌∙◌, append_assoc, arith}
use Rattle.std.proofs.lemmas.List.{append-nil, drop_all, take_all, length-append, length-drop, length-take, length-take-le, drop-drop, drop-append-le, take-append-le}
use Rattle.std.proofs.Math.Seq.{take-add}

pub length-turned : (xs : List ℕ) (m : ℕ) → length (drop m xs ++ take m xs) ≡ length xs
length-turned xs m = omega (arith, length-append (drop m xs) (take m xs), length-drop m xs, length-take m xs)

-- k items more were moved
turned-more : (xs : List ℕ) (m k : ℕ) → m + k ≤ length xs → drop k (drop m xs ++ take m xs) ++ take k (drop m xs ++ take m xs) ≡ drop (m + k) xs ++ take (m + k) xs
turned-more xs m k le =
    let within : k ≤ length (drop m xs) = omega (arith, length-drop m xs) in
    ap (λ (front : List ℕ). front ++ take k (drop m xs ++ take m xs)) (drop-append-le k (drop m xs) (take m xs) within)
    ∙ ap (λ (back : List ℕ). (drop k (drop m xs) ++ take m xs) ++ back) (take-append-le k (drop m xs) (take m xs) within)
    ∙ append_assoc (drop k (drop m xs)) (take m xs) (take k (drop m xs))
    ∙ ap (λ (front : List ℕ). front ++ (take m xs ++ take k (drop m xs))) (drop-drop k m xs)
    ∙ ap (λ (back : List ℕ). drop (m + k) xs ++ back) (sym (take-add m k xs))

-- what was read into a piece is the whole piece, and what is fed of it then is just that
pub record Turned (xs : List ℕ) (m k : ℕ) (piece new : List ℕ) : Type 0 where
  pub whole : k ≡ length piece
  pub items : new ≡ drop (m + k) xs ++ take (m + k) xs

pub turned : (xs items piece read rest new : List ℕ) (m k fed capacity : ℕ)
    → items ≡ drop m xs ++ take m xs → m + length piece ≤ length xs → length xs ≤ capacity
    → k ≡ min (length piece) (length items) → read ≡ take k items ++ drop k piece → rest ≡ drop k items
    → fed ≡ min (length read) (capacity - length rest) → new ≡ rest ++ take fed read
    → Turned xs m k piece new
turned xs items piece read rest new m k fed capacity is within fits count was_read was_left was_fed now =
    let len : length items ≡ length xs = ap length is ∙ length-turned xs m in
    let whole : k ≡ length piece = omega (arith, len, within, count) in
    let just : read ≡ take k items = was_read ∙ ap (λ (back : List ℕ). take k items ++ back) (drop_all k piece (omega (arith, whole))) ∙ append-nil (take k items) in
    let read_len : length read ≡ k = ap length just ∙ length-take-le k items (omega (arith, len, within, whole)) in
    let rest_len : length rest ≡ length items - k = ap length was_left ∙ length-drop k items in
    let all : take fed read ≡ read = take_all fed read (omega (arith, was_fed, read_len, rest_len, len, fits, within, whole)) in
    record {
      whole = whole;
      items =
          now
          ∙ ap (λ (back : List ℕ). rest ++ back) (all ∙ just)
          ∙ ap (λ (front : List ℕ). front ++ take k items) was_left
          ∙ ap (λ (l : List ℕ). drop k l ++ take k l) is
          ∙ turned-more xs m k (omega (arith, within, whole));
    }
