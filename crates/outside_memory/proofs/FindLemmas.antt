use Rattle.std.proofs.Common.{◌≡◌, ◌≢◌, ℕ, ◌≤◌, Bool, true, false, List, [], ◌∷◌, ◌++◌, length, Option, Some, None, sym, ◌∙◌, refl, arith}
use Rattle.std.specs.List.{find, position, position_or_len}
use Rattle.std.specs.Option.{option_or}
use Rattle.std.specs.Str.{bytes_eq}
use Rattle.std.proofs.lemmas.Bool.{false_from_ne_true}
use Rattle.std.proofs.lemmas.List.Folds.{find-append, find_at}
use Rattle.std.proofs.lemmas.Option.{slice_get_past}
use Rattle.std.proofs.lemmas.Slice.Eq.{bytes_eq-Decides}

-- a name passes its own test, and no other
pub bytes_eq-same : (a b : List ℕ) → a ≡ b → bytes_eq a b ≡ true
bytes_eq-same a b e = (bytes_eq-Decides a b).1 e

pub bytes_eq-other : (a b c : List ℕ) → bytes_eq a b ≡ true → c ≢ b → bytes_eq a c ≡ false
bytes_eq-other a b c e ne =
    false_from_ne_true (bytes_eq a c) (λ t. ne (sym ((bytes_eq-Decides a c).0 t) ∙ (bytes_eq-Decides a b).0 e))

-- the place of the first that passes, where one does
pub position-is : {X : Type 0} (p : X → Bool) (xs : List X) (i : ℕ) → position p xs ≡ Some i → i ≡ position_or_len p xs
position-is p xs i e = grind arith

-- nothing passes where there is no place
pub find-none : {X : Type 0} (p : X → Bool) (xs : List X) → position p xs ≡ None → find p xs ≡ None
find-none p xs e =
    let past : length xs ≤ position_or_len p xs = grind arith in
    find_at p xs ∙ slice_get_past xs (position_or_len p xs) past

-- where the first part has none, the second counts, and where the second has none, the first
pub find-first-none : {X : Type 0} (p : X → Bool) (xs : List X) (x : X) → find p xs ≡ None → p x ≡ true → find p (xs ++ x ∷ []) ≡ Some x
find-first-none p xs x none passes = rw (find-append p xs (x ∷ []), none, passes) refl

pub find-second-none : {X : Type 0} (p : X → Bool) (xs : List X) (x : X) → p x ≡ false → find p (xs ++ x ∷ []) ≡ find p xs
find-second-none p xs x fails = rw (find-append p xs (x ∷ []), fails) (or-none (find p xs))
  where
    or-none : {Y : Type 0} (o : Option Y) → option_or o None ≡ o
    or-none None = refl
    or-none (Some y) = refl
