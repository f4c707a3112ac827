-- The least number that stands twice.
use Rattle.std.proofs.Common.{◌≡◌, ℕ, ◌+◌, ◌-◌, ◌<◌, ◌≤◌, Bool, true, false, cond, ◌||◌, List, [], ◌∷◌, length, take, drop, get_or, map, Option, Some, None, refl, inl, inr, sym, ap, subst, ◌∙◌, arith, min}
use Rattle.std.specs.Prelude.{find, MatchOption, ◌==◌}
use Rattle.std.specs.List.{list_any}
use Rattle.std.proofs.lemmas.Bool.{cases_lt, eqb-true, eqb-false}
use Rattle.std.proofs.lemmas.List.{drop_more, take_rest}
use Rattle.info_hooks.specs.declared.key.Key.{Key}
use Rattle.info_hooks.specs.Hooks.{AreOnce, IsLeastTwice, count_of, numbers_of}
use Rattle.info_hooks.specs.Twice.{least_of, least_twice}

-- a number more is counted where it is the same
count_same : (m n : ℕ) (ns : List ℕ) → (n == m) ≡ true → count_of m (n ∷ ns) ≡ count_of m ns + 1
count_same m n ns e = rw e (omega arith)

count_other : (m n : ℕ) (ns : List ℕ) → (n == m) ≡ false → count_of m (n ∷ ns) ≡ count_of m ns
count_other m n ns e = rw e refl

-- where one number more is counted, by whether it is the same
counts : (m n : ℕ) (ns : List ℕ) → (same : Bool) → (n == m) ≡ same → (m ≡ n → count_of m (n ∷ ns) ≡ count_of m ns + 1) × ((m ≡ n → ⊥) → count_of m (n ∷ ns) ≡ count_of m ns)
counts m n ns true e = (λ h. count_same m n ns e, λ no. absurd (no (sym (eqb-true n m e))))
counts m n ns false e = (λ h. absurd (eqb-false n m e (sym h)), λ no. count_other m n ns e)

-- what is found is counted
found_more : (n m : ℕ) (ns : List ℕ) (same : Bool) → (m == n) ≡ same → (list_any (λ k. k == n) ns ≡ true → 1 ≤ count_of n ns) → (same || list_any (λ k. k == n) ns) ≡ true → 1 ≤ count_of n (m ∷ ns)
found_more n m ns true e rest h = omega (arith, count_same n m ns e)
found_more n m ns false e rest h = omega (arith, count_other n m ns e, rest h)

found : (n : ℕ) (ns : List ℕ) → list_any (λ k. k == n) ns ≡ true → 1 ≤ count_of n ns
found n [] e = absurd cc
found n (m ∷ ns) e = found_more n m ns (m == n) refl (found n ns) e

-- what isn't found isn't counted
missing_more : (n m : ℕ) (ns : List ℕ) (same : Bool) → (m == n) ≡ same → (list_any (λ k. k == n) ns ≡ false → count_of n ns ≡ 0) → (same || list_any (λ k. k == n) ns) ≡ false → count_of n (m ∷ ns) ≡ 0
missing_more n m ns true e rest h = absurd cc
missing_more n m ns false e rest h = count_other n m ns e ∙ rest h

missing : (n : ℕ) (ns : List ℕ) → list_any (λ k. k == n) ns ≡ false → count_of n ns ≡ 0
missing n [] e = refl
missing n (m ∷ ns) e = missing_more n m ns (m == n) refl (missing n ns) e

-- the lesser of two numbers of which one stands again and the other twice
twice_min : (n b : ℕ) (ns : List ℕ) → 1 ≤ count_of n ns → 2 ≤ count_of b ns → 2 ≤ count_of (min n b) (n ∷ ns)
twice_min n b ns again twice =
    let c = counts (min n b) n ns (n == min n b) refl in
    elim (cases_lt b n) [
      | inl lt ↦ let same : min n b ≡ b = grind arith in subst (λ k. 2 ≤ count_of k (n ∷ ns)) (sym same) (let d = counts b n ns (n == b) refl in grind (arith, d))
      | inr le ↦ let same : min n b ≡ n = grind arith in subst (λ k. 2 ≤ count_of k (n ∷ ns)) (sym same) (let d = counts n n ns (n == n) refl in omega (arith, d.0 refl))
    ]

-- a number more, by whether it stands again and by the least number of the others
more : (n : ℕ) (ns : List ℕ) (again : Bool) (rest : Option ℕ) → list_any (λ k. k == n) ns ≡ again → MatchOption rest (AreOnce ns) (λ b. IsLeastTwice b ns) → MatchOption (least_of n again rest) (AreOnce (n ∷ ns)) (λ b. IsLeastTwice b (n ∷ ns))
more n ns false None e once = λ m. let c = counts m n ns (n == m) refl in grind (arith, c, once m, missing n ns e)
more n ns true None e once = record {
  twice = let c = counts n n ns (n == n) refl in omega (arith, c.0 refl, found n ns e);
  least = λ m lt. let c = counts m n ns (n == m) refl in omega (arith, c.1 (λ h. omega (arith, h, lt)), once m);
}
more n ns false (Some b) e is = record {
  twice = let c = counts b n ns (n == b) refl in grind (arith, c, is.twice);
  least = λ m lt. let c = counts m n ns (n == m) refl in grind (arith, c, is.least m lt, missing n ns e);
}
more n ns true (Some b) e is = record {
  twice = let c = counts (min n b) n ns (n == min n b) refl in twice_min n b ns (found n ns e) is.twice;
  least = λ m lt. let c = counts m n ns (n == m) refl in grind (arith, c, is.least m);
}

-- the least number that stands twice
pub is_least_twice : (ns : List ℕ) → MatchOption (least_twice ns) (AreOnce ns) (λ b. IsLeastTwice b ns)
is_least_twice [] = λ m. omega arith
is_least_twice (n ∷ ns) = more n ns (list_any (λ k. k == n) ns) (least_twice ns) refl (is_least_twice ns)

-- the least number that stands twice among more elements
pub first_more : {H : Type 0} (f : H → Key) (list : List H) (first : H) (number : ℕ) (again : Bool) (rest : Option ℕ) → 1 ≤ length list → first ≡ get_or list 0 first → number ≡ (f first).number → again ≡ list_any (λ n. n == number) (numbers_of (map f (take (length list - 1) (drop 1 list)))) → rest ≡ least_twice (numbers_of (map f (take (length list - 1) (drop 1 list)))) → least_of number again rest ≡ least_twice (numbers_of (map f list))
first_more f [] first number again rest some is same among others = absurd (omega arith)
first_more {H = H} f (x ∷ xs) first number again rest some is same among others =
    let here : number ≡ (f x).number = same ∙ ap (λ (h : H). (f h).number) is in
    let behind : take (length (x ∷ xs) - 1) xs ≡ xs = take_rest (x ∷ xs) 1 in
    rw (among, others, behind, here) refl

-- what is found in the rest of a list, by its first element
pub find_more : {H : Type 0} (p : H → Bool) (list : List H) (i : ℕ) (first : H) (passes : Bool) → i < length list → first ≡ get_or list i first → p first ≡ passes → find p (drop i list) ≡ cond passes (Some first) (find p (drop (i + 1) list))
find_more {H = H} p list i first passes within is e =
    ap (find p) (drop_more list i first within) ∙ ap (λ (h : H). cond (p h) (Some h) (find p (drop (i + 1) list))) (sym is) ∙ ap (λ (b : Bool). cond b (Some first) (find p (drop (i + 1) list))) e
