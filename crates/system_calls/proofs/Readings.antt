use Rattle.std.proofs.Common.{◌≡◌, ℕ, ◌+◌, ◌≤◌, List, length, take, ◌++◌, Option, Some, None, append_assoc, ap, sym, ◌∙◌}
use Rattle.std.proofs.Math.Seq.{take-append-add}
use Rattle.std.proofs.lemmas.List.{length-take-le, take-append-le}
use Rattle.std.specs.Io.KnownBytes.{Consumes}

-- two readings, one after the other
pub Consumes-then : (a b c : Option (List ℕ)) (first second : List ℕ) → Consumes a b first → Consumes b c second → Consumes a c (first ++ second)
Consumes-then None b c first second f s = tt
Consumes-then (Some xs) None c first second f s = absurd f
Consumes-then (Some xs) (Some ys) None first second f s = absurd s
Consumes-then (Some xs) (Some ys) (Some zs) first second f s =
    f ∙ ap (λ w. first ++ w) s ∙ sym (append_assoc first second zs)

-- bytes put after the first ones stand after them
pub take-joined : (a n : ℕ) (xs ys zs : List ℕ) → a ≤ length xs → n ≤ length ys → take (a + n) (take a xs ++ (ys ++ zs)) ≡ take a xs ++ take n ys
take-joined a n xs ys zs within short =
    ap (λ k. take (k + n) (take a xs ++ (ys ++ zs))) (sym (length-take-le a xs within)) ∙ take-append-add (take a xs) (ys ++ zs) n ∙ ap (λ w. take a xs ++ w) (take-append-le n ys zs short)
