-- Lists of different elements, and lists of which all elements pass.
use Rattle.std.proofs.Common.{◌≡◌, ℕ, zero, suc, ◌<◌, Bool, true, false, not, List, [], ◌∷◌, ◌++◌, length, map, get_or, refl, sym, ap, ◌∙◌, arith, ◌||◌}
use Rattle.std.specs.List.{list_all, list_any}
use Rattle.std.proofs.lemmas.Bool.{and_parts, false≢true}
use Rattle.std.proofs.lemmas.List.Folds.{list_any-append}
use Rattle.account_file.proofs.KeyLemmas.{list_any-map}
use Rattle.policy_model.specs.Settings.{are_distinct}

-- neither where not either
neither : (a b : Bool) → not (a || b) ≡ true → (a ≡ false) × (b ≡ false)
neither true b e = absurd (false≢true e)
neither false true e = absurd (false≢true e)
neither false false e = (refl, refl)

-- the first of two that are joined is false where the join is
first_false : (a b : Bool) → (a || b) ≡ false → a ≡ false
first_false true b e = absurd (false≢true (sym e))
first_false false b e = refl

-- not true
not_so : (a : Bool) → not a ≡ true → a ≡ false
not_so true e = absurd (false≢true e)
not_so false e = refl

-- an element after others is none of these
pub new_behind : {A : Type 0} (same : A → A → Bool) (before : List A) (x : A) (rest : List A) → are_distinct same (before ++ x ∷ rest) ≡ true → list_any (λ y. same y x) before ≡ false
new_behind same [] x rest apart = refl
new_behind same (y ∷ ys) x rest apart =
    let parts = and_parts (not (list_any (same y) (ys ++ x ∷ rest))) (are_distinct same (ys ++ x ∷ rest)) apart in
    let none : (list_any (same y) ys || list_any (same y) (x ∷ rest)) ≡ false = sym (list_any-append (same y) ys (x ∷ rest)) ∙ not_so _ parts.0 in
    let here : same y x ≡ false = first_false _ _ (second_false _ _ none) in
    ap (λ (b : Bool). b || list_any (λ z. same z x) ys) here ∙ new_behind same ys x rest parts.1 where
      second_false : (a b : Bool) → (a || b) ≡ false → b ≡ false
      second_false true b e = absurd (false≢true (sym e))
      second_false false b e = e

-- elements differ as what they are read as does
pub distinct-map : {X Y : Type 0} (same : X → X → Bool) (f : Y → X) (ys : List Y) → are_distinct same (map f ys) ≡ are_distinct (λ a b. same (f a) (f b)) ys
distinct-map same f [] = refl
distinct-map same f (y ∷ ys) = rw (list_any-map (same (f y)) f ys, distinct-map same f ys) refl

-- an element of a list of which all pass
pub passes_at : {A : Type 0} (p : A → Bool) (xs : List A) (i : ℕ) (d : A) → list_all p xs ≡ true → i < length xs → p (get_or xs i d) ≡ true
passes_at p [] i d all lt = absurd (omega arith)
passes_at p (x ∷ xs) zero d all lt = (and_parts (p x) (list_all p xs) all).0
passes_at p (x ∷ xs) (suc i) d all lt = passes_at p xs i d (and_parts (p x) (list_all p xs) all).1 (omega arith)
