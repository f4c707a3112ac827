use Rattle.std.proofs.Common.{◌≡◌, ℕ, suc, ◌+◌, ◌<◌, ◌≤◌, List, [], ◌∷◌, ◌++◌, length, take, drop, get_or, set, refl, sym, ap, ◌∙◌, arith, add-one, append_assoc, length-append, length-drop}
use Rattle.std.proofs.Math.Seq.{drop-cons, set-append_seam, take-append-add, take-append_seam}

-- a text that was written to the front leaves the bytes after it
pub length-written : (text out new : List ℕ) (n : ℕ) → new ≡ text ++ drop n out → length new ≡ length out → n ≤ length out → length text ≡ n
length-written text out new n written same fits =
    omega (arith, ap length written, same, length-append text (drop n out), length-drop n out)

-- a newline is written after a text
pub newline-behind : (text out new : List ℕ) (n : ℕ) → new ≡ text ++ drop n out → length text ≡ n → n < length out → set new n 10 ≡ text ++ 10 ∷ [] ++ drop (n + 1) out
newline-behind text out new n written len fits =
    let rest = drop (suc n) out in
    let at_n : set (text ++ get_or out n 0 ∷ rest) n 10 ≡ text ++ 10 ∷ rest = ap (λ k. set (text ++ get_or out n 0 ∷ rest) k 10) (sym len) ∙ set-append_seam text (get_or out n 0) rest 10 in
    let more : drop (suc n) out ≡ drop (n + 1) out = rw add-one refl in
    ap (λ w. set w n 10) written ∙ ap (λ w. set (text ++ w) n 10) (drop-cons out n 0 fits) ∙ at_n ∙ ap (λ w. text ++ 10 ∷ w) more ∙ sym (append_assoc text (10 ∷ []) (drop (n + 1) out))

-- two texts one after the other, each written to the front of what is left
pub two-written : (first second rest rest' out out' last : List ℕ) (a n : ℕ) → out ≡ first ++ rest → length first ≡ a → out' ≡ second ++ rest' → n ≡ length second → take (a + n) (take a out ++ (out' ++ last)) ≡ first ++ second
two-written first second rest rest' out out' last a n written len written' len' =
    let front : take a out ≡ first = ap (λ w. take a w) written ∙ ap (λ k. take k (first ++ rest)) (sym len) ∙ take-append_seam first rest in
    let back : take n (out' ++ last) ≡ second = ap (λ w. take n (w ++ last)) written' ∙ ap (λ w. take n w) (append_assoc second rest' last) ∙ ap (λ k. take k (second ++ (rest' ++ last))) len' ∙ take-append_seam second (rest' ++ last) in
    ap (λ w. take (a + n) (w ++ (out' ++ last))) front ∙ ap (λ k. take (k + n) (first ++ (out' ++ last))) (sym len) ∙ take-append-add first (out' ++ last) n ∙ ap (λ w. first ++ w) back
