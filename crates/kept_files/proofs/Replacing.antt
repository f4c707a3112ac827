-- A file in a list of files is replaced.
use Rattle.std.proofs.Common.{◌≡◌, ◌≢◌, ℕ, Bool, true, false, List, [], get_or, set, None, Some, option_map, refl, sym, ap, ◌∙◌, arith}
use Rattle.std.specs.Prelude.{slice_get}
use Rattle.std.specs.List.{position, position_or_len}
use Rattle.std.specs.Str.{bytes_eq}
use Rattle.std.proofs.lemmas.Bool.{false_from_ne_true}
use Rattle.std.proofs.lemmas.List.Folds.{find-set, find_at, find_past}
use Rattle.std.proofs.lemmas.List.Quantifiers.{position-Some}
use Rattle.std.proofs.lemmas.Option.{slice_get-get_or}
use Rattle.std.proofs.lemmas.Slice.Eq.{bytes_eq-Decides}
use Rattle.outside.specs.Files.{Replaced, file_of}

-- a name passes its own test, and no other
same_passes : (a b : List ℕ) → a ≡ b → bytes_eq a b ≡ true
same_passes a b e = (bytes_eq-Decides a b).1 e

other_fails : (a b c : List ℕ) → bytes_eq a b ≡ true → c ≢ b → bytes_eq a c ≡ false
other_fails a b c e ne =
    false_from_ne_true (bytes_eq a c) (λ t. ne (sym ((bytes_eq-Decides a c).0 t) ∙ (bytes_eq-Decides a b).0 e))

-- the place of the first that passes, where one does
place_is : {X : Type 0} (p : X → Bool) (xs : List X) (i : ℕ) → position p xs ≡ Some i → i ≡ position_or_len p xs
place_is p xs i e = grind arith

-- the first pair of a name has other bytes
pub replaced_set : (pairs : List (List ℕ × List ℕ)) (i : ℕ) (pair : List ℕ × List ℕ)
    → position (λ p. bytes_eq p.0 pair.0) pairs ≡ Some i
    → Replaced pair.0 pair.1 (file_of pairs) (file_of (set pairs i pair))
replaced_set pairs i pair at =
    let passes = λ (p : List ℕ × List ℕ). bytes_eq p.0 pair.0 in
    let found = position-Some passes pairs i pair at in
    let same = same_passes pair.0 pair.0 refl in
    record {
      file = ap (option_map (λ p. p.1)) (find-set passes pairs i pair (place_is passes pairs i at) found.0 same);
      others = λ other ne. ap (option_map (λ p. p.1)) (find_past (λ p. bytes_eq p.0 other) pairs i pair pair (other_fails (get_or pairs i pair).0 pair.0 other found.1 ne) (other_fails pair.0 pair.0 other same ne));
    }

-- a file that has a place is there
pub has_place : (pairs : List (List ℕ × List ℕ)) (i : ℕ) (name : List ℕ) → position (λ p. bytes_eq p.0 name) pairs ≡ Some i → file_of pairs name ≡ None → ⊥
has_place pairs i name at none =
    let passes = λ (p : List ℕ × List ℕ). bytes_eq p.0 name in
    let found = position-Some passes pairs i ([], []) at in
    let stands = find_at passes pairs ∙ ap (slice_get pairs) (sym (place_is passes pairs i at)) ∙ slice_get-get_or pairs i ([], []) found.0 in
    let e = sym (ap (option_map (λ p. p.1)) stands) ∙ none in
    absurd cc
