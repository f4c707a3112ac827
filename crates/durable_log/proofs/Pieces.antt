-- How bytes are cut into pieces.
use Rattle.std.proofs.Common.{◌≡◌, ◌==◌, Bool, true, false, inl, inr, ℕ, zero, suc, ◌<◌, ◌≤◌, min, List, [], ◌∷◌, ◌++◌, length, take, drop, refl, sym, ◌∙◌, ap, arith, length-drop, take-append-drop}
use Rattle.std.proofs.lemmas.Bool.{cases_lt}
use Rattle.std.proofs.lemmas.Bool.Decides.{nat_tests}
use Rattle.std.proofs.lemmas.List.{drop_all, take_all}
use Rattle.std.specs.List.{concat}
use Rattle.durable_log.specs.Journal.{pieces_from, pieces_of}

same_pieces : (m n : ℕ) (bytes : List ℕ) → length bytes ≤ m → length bytes ≤ n → pieces_from m bytes ≡ pieces_from n bytes
same_pieces zero zero bytes a b = refl
same_pieces zero (suc n) [] a b = refl
same_pieces zero (suc n) (x ∷ bytes) a b = absurd (omega arith)
same_pieces (suc m) zero [] a b = refl
same_pieces (suc m) zero (x ∷ bytes) a b = absurd (omega arith)
same_pieces (suc m) (suc n) [] a b = refl
same_pieces (suc m) (suc n) (x ∷ bytes) a b = ap (λ (l : List (List ℕ)). take 256 (x ∷ bytes) ∷ l) (same_pieces m n (drop 256 (x ∷ bytes)) (omega (arith, length-drop 256 (x ∷ bytes))) (omega (arith, length-drop 256 (x ∷ bytes))))

pub no_pieces : (bytes : List ℕ) → length bytes ≡ 0 → pieces_of bytes ≡ []
no_pieces [] none = refl
no_pieces (b ∷ bytes) none = absurd (omega arith)

pub next_piece : (bytes : List ℕ) → 0 < length bytes → pieces_of bytes ≡ take 256 bytes ∷ pieces_of (drop 256 bytes)
next_piece [] some = absurd (omega arith)
next_piece (b ∷ bytes) some = ap (λ (l : List (List ℕ)). take 256 (b ∷ bytes) ∷ l) (same_pieces (length bytes) (length (drop 256 (b ∷ bytes))) (drop 256 (b ∷ bytes)) (omega (arith, length-drop 256 (b ∷ bytes))) (omega arith))

joined_from : (n : ℕ) (bytes : List ℕ) → length bytes ≤ n → concat (pieces_from n bytes) ≡ bytes
joined_from zero [] a = refl
joined_from zero (b ∷ bytes) a = absurd (omega arith)
joined_from (suc n) [] a = refl
joined_from (suc n) (b ∷ bytes) a =
    ap (λ (l : List ℕ). take 256 (b ∷ bytes) ++ l) (joined_from n (drop 256 (b ∷ bytes)) (omega (arith, length-drop 256 (b ∷ bytes))))
    ∙ take-append-drop 256 (b ∷ bytes)

pub joined_pieces : (bytes : List ℕ) → concat (pieces_of bytes) ≡ bytes
joined_pieces bytes = joined_from (length bytes) bytes (omega arith)

-- the first bytes, as many as there are
pub take_least : (bytes : List ℕ) (n : ℕ) → n ≡ min (length bytes) 256 → take n bytes ≡ take 256 bytes
take_least bytes n is = elim (cases_lt (length bytes) 256) [
  | inr long ↦ let same : n ≡ 256 = omega arith in ap (λ (k : ℕ). take k bytes) same
  | inl short ↦ take_all n bytes (omega arith) ∙ sym (take_all 256 bytes (omega arith))
]

pub drop_least : (bytes : List ℕ) (n : ℕ) → n ≡ min (length bytes) 256 → drop n bytes ≡ drop 256 bytes
drop_least bytes n is = elim (cases_lt (length bytes) 256) [
  | inr long ↦ let same : n ≡ 256 = omega arith in ap (λ (k : ℕ). drop k bytes) same
  | inl short ↦ drop_all n bytes (omega arith) ∙ sym (drop_all 256 bytes (omega arith))
]

-- whether a list is empty
pub is_none : (n : ℕ) (b : Bool) → b ≡ (n == 0) → b ≡ true → n ≡ 0
is_none n b is told = let same : (n == 0) ≡ true = sym is ∙ told in grind (arith, nat_tests)

pub is_some : (n : ℕ) (b : Bool) → b ≡ (n == 0) → b ≡ false → 0 < n
is_some n b is told = let same : (n == 0) ≡ false = sym is ∙ told in grind (arith, nat_tests)

pub one_piece : (bytes : List ℕ) → 0 < length bytes → length bytes ≤ 256 → pieces_of bytes ≡ bytes ∷ []
one_piece bytes some few =
    let none : drop 256 bytes ≡ [] = drop_all 256 bytes few in
    next_piece bytes some ∙ ap (λ (l : List ℕ). l ∷ pieces_of (drop 256 bytes)) (take_all 256 bytes few) ∙ ap (λ (l : List ℕ). bytes ∷ pieces_of l) none

pub few_pieces : (bytes : List ℕ) → length bytes ≤ 256 → length (pieces_of bytes) ≤ 1
few_pieces bytes few = elim (cases_lt 0 (length bytes)) [
  | inl some ↦ let one : length (pieces_of bytes) ≡ 1 = ap (λ (p : List (List ℕ)). length p) (one_piece bytes some few) in omega (arith, one)
  | inr none ↦ let no : length (pieces_of bytes) ≡ 0 = ap (λ (p : List (List ℕ)). length p) (no_pieces bytes (omega arith)) in omega (arith, no)
]
