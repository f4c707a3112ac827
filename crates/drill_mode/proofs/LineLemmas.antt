-- Texts joined over the first things of a list, and one more.
use Rattle.std.proofs.Common.{◌≡◌, ℕ, zero, suc, ◌+◌, ◌-◌, ◌<◌, ◌≤◌, List, ◌++◌, get_or, length, take, ap, sym, ◌∙◌, arith, append_assoc, append-nil}
use Rattle.std.specs.List.{flat_map, range_with_len}
use Rattle.std.proofs.lemmas.List.{flat_map_more, take_more}

-- one more thing of a list
pub taken_more : {X : Type 0} (f : X → List ℕ) (before : List ℕ) (xs : List X) (i : ℕ) (d : X) → i < length xs → (before ++ flat_map f (take i xs)) ++ f (get_or xs i d) ≡ before ++ flat_map f (take (i + 1) xs)
taken_more f before xs i d below =
    flat_map_more f before (take i xs) (get_or xs i d)
    ∙ ap (λ ys. before ++ flat_map f ys) (sym (take_more xs i d below))

-- one more number
range_more : (f : ℕ → List ℕ) (a n : ℕ) → flat_map f (range_with_len a (suc n)) ≡ flat_map f (range_with_len a n) ++ f (a + n)
range_more f a zero = append-nil (f a) ∙ ap f (omega arith)
range_more f a (suc n) =
    ap (λ text. f a ++ text) (range_more f (a + 1) n)
    ∙ sym (append_assoc (f a) (flat_map f (range_with_len (a + 1) n)) (f (a + 1 + n)))
    ∙ ap (λ k. (f a ++ flat_map f (range_with_len (a + 1) n)) ++ f k) (omega arith)

pub counted_more : (f : ℕ → List ℕ) (before : List ℕ) (number : ℕ) → 1 ≤ number → (before ++ flat_map f (range_with_len 1 (number - 1))) ++ f number ≡ before ++ flat_map f (range_with_len 1 (number + 1 - 1))
counted_more f before number some =
    let this : 1 + (number - 1) ≡ number = omega arith in
    let next : number + 1 - 1 ≡ suc (number - 1) = omega arith in
    append_assoc before (flat_map f (range_with_len 1 (number - 1))) (f number)
    ∙ ap (λ text. before ++ text) (ap (λ k. flat_map f (range_with_len 1 (number - 1)) ++ f k) (sym this) ∙ sym (range_more f 1 (number - 1)) ∙ ap (λ k. flat_map f (range_with_len 1 k)) (sym next))
