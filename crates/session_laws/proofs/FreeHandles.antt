-- Fewer than 8 live handles leave one of 1 to 8, which is the one that a permitted OPEN gives.
use Rattle.std.proofs.Common.{◌≡◌, ℕ, ◌≤◌, ◌<◌, Bool, true, false, not, ◌||◌, ◌==◌, cond, eqb, nat_eq, List, [], ◌∷◌, length, map, Option, Some, None, refl, sym, ap, ◌∙◌, arith}
use Rattle.std.specs.Prelude.{is_none, unwrap_or}
use Rattle.std.specs.List.{IsDistinct, find, list_any}
use Rattle.std.proofs.lemmas.Bool.Decides.{nat_tests}
use Rattle.std.proofs.lemmas.Bool.{eqb-true, not-false, not-true}
use Rattle.std.proofs.lemmas.Cmp.{nat_eq_equiv}
use Rattle.std.proofs.lemmas.List.{length-map}
use Rattle.std.proofs.lemmas.Map.Made.{IsDistinct-from_count, length-le_from_is_member}
use Rattle.policy_model.specs.declared.event.Event.{Event}
use Rattle.policy_model.specs.declared.handles.TheConstants.{HANDLE_NUMBERS}
use Rattle.policy_model.specs.Cases.{handle_of}
use Rattle.policy_model.specs.Settings.{is_number}

-- a live handle of this number
abbrev pub has_handle : List Event → ℕ → Bool
has_handle live n = list_any (λ o. handle_of o == n) live

abbrev pub is_free : List Event → ℕ → Bool
is_free live n = is_none (find (λ o. handle_of o == n) live)

free_is : (live : List Event) (n : ℕ) → is_free live n ≡ not (has_handle live n)
free_is [] n = refl
free_is (o ∷ os) n = elim (handle_of o == n) as (λ b. is_none (cond b (Some o) (find (λ x. handle_of x == n) os)) ≡ not (b || has_handle os n)) [ true ↦ refl | false ↦ free_is os n ]

turned : (a b : ℕ) → (a == b) ≡ nat_eq b a
turned a b = grind (arith, nat_tests)

member_is : (live : List Event) (n : ℕ) → list_any (nat_eq n) (map handle_of live) ≡ has_handle live n
member_is [] n = refl
member_is (o ∷ os) n = ap (λ b. b || list_any (nat_eq n) (map handle_of os)) (sym (turned (handle_of o) n)) ∙ ap (λ b. (handle_of o == n) || b) (member_is os n)

-- what isn't found fails at each element
none_passes : (p : ℕ → Bool) (xs : List ℕ) (q : ℕ) → find p xs ≡ None → list_any (nat_eq q) xs ≡ true → p q ≡ false
none_passes p [] q none is = absurd cc
none_passes p (x ∷ xs) q none is = go (p x) refl none (nat_eq q x) refl is (none_passes p xs q) where
  go : (b : Bool) → p x ≡ b → cond b (Some x) (find p xs) ≡ None → (c : Bool) → nat_eq q x ≡ c → (c || list_any (nat_eq q) xs) ≡ true → (find p xs ≡ None → list_any (nat_eq q) xs ≡ true → p q ≡ false) → p q ≡ false
  go true h none c k is rest = absurd cc
  go false h none true k is rest = let same : q ≡ x = eqb-true q x k in ap p same ∙ h
  go false h none false k is rest = rest none is

-- what is found passes, and stands in the list
pub record IsFound (p : ℕ → Bool) (xs : List ℕ) (n : ℕ) : Type 0 where
  pub passes : p n ≡ true
  pub stands : list_any (nat_eq n) xs ≡ true

found_is : (p : ℕ → Bool) (xs : List ℕ) (n : ℕ) → find p xs ≡ Some n → IsFound p xs n
found_is p [] n h = absurd cc
found_is p (x ∷ xs) n h = go (p x) refl h (found_is p xs n) where
  same_number : (n : ℕ) → nat_eq n n ≡ true
  same_number n = grind (arith, nat_tests)

  or_true : (b : Bool) → (b || true) ≡ true
  or_true true = refl
  or_true false = refl

  go : (b : Bool) → p x ≡ b → cond b (Some x) (find p xs) ≡ Some n → (find p xs ≡ Some n → IsFound p xs n) → IsFound p (x ∷ xs) n
  go true is h rest =
      let same : x ≡ n = cc in
      record { passes = ap p (sym same) ∙ is; stands = ap (λ y. nat_eq n y || list_any (nat_eq n) xs) same ∙ ap (λ b. b || list_any (nat_eq n) xs) (same_number n) }
  go false is h rest = let f = rest h in record { passes = f.passes; stands = ap (λ b. nat_eq n x || b) f.stands ∙ or_true (nat_eq n x) }

numbers_distinct : IsDistinct nat_eq HANDLE_NUMBERS
numbers_distinct = IsDistinct-from_count nat_eq_equiv HANDLE_NUMBERS refl

-- where none of the eight is free, there are eight
all_taken : (live : List Event) → find (is_free live) HANDLE_NUMBERS ≡ None → 8 ≤ length live
all_taken live none =
    let le : length HANDLE_NUMBERS ≤ length (map handle_of live) = length-le_from_is_member nat_eq_equiv HANDLE_NUMBERS (map handle_of live) numbers_distinct
    (λ q is. member_is live q ∙ not-false (has_handle live q) (sym (free_is live q) ∙ none_passes (is_free live) HANDLE_NUMBERS q none is)) in
    omega (arith, le, length-map live handle_of)

number_within : (n : ℕ) → list_any (nat_eq n) HANDLE_NUMBERS ≡ true → is_number 1 8 n ≡ true
number_within n h = go (eqb n 1) (eqb n 2) (eqb n 3) (eqb n 4) (eqb n 5) (eqb n 6) (eqb n 7) (eqb n 8) refl refl refl refl refl refl refl refl h where
  at : (k : ℕ) → eqb n k ≡ true → is_number 1 8 k ≡ true → is_number 1 8 n ≡ true
  at k is ok = ap (is_number 1 8) (eqb-true n k is) ∙ ok

  go : (a b c d e f g i : Bool) → eqb n 1 ≡ a → eqb n 2 ≡ b → eqb n 3 ≡ c → eqb n 4 ≡ d → eqb n 5 ≡ e → eqb n 6 ≡ f → eqb n 7 ≡ g → eqb n 8 ≡ i → (a || (b || (c || (d || (e || (f || (g || (i || false)))))))) ≡ true → is_number 1 8 n ≡ true
  go true b c d e f g i h1 h2 h3 h4 h5 h6 h7 h8 h = at 1 h1 refl
  go false true c d e f g i h1 h2 h3 h4 h5 h6 h7 h8 h = at 2 h2 refl
  go false false true d e f g i h1 h2 h3 h4 h5 h6 h7 h8 h = at 3 h3 refl
  go false false false true e f g i h1 h2 h3 h4 h5 h6 h7 h8 h = at 4 h4 refl
  go false false false false true f g i h1 h2 h3 h4 h5 h6 h7 h8 h = at 5 h5 refl
  go false false false false false true g i h1 h2 h3 h4 h5 h6 h7 h8 h = at 6 h6 refl
  go false false false false false false true i h1 h2 h3 h4 h5 h6 h7 h8 h = at 7 h7 refl
  go false false false false false false false true h1 h2 h3 h4 h5 h6 h7 h8 h = at 8 h8 refl
  go false false false false false false false false h1 h2 h3 h4 h5 h6 h7 h8 h = absurd cc

pub record IsFreeNumber (live : List Event) (n : ℕ) : Type 0 where
  pub within : is_number 1 8 n ≡ true
  pub unused : has_handle live n ≡ false
  pub free : find (λ o. handle_of o == n) live ≡ None

none_from : (o : Option Event) → is_none o ≡ true → o ≡ None
none_from None h = refl
none_from (Some e) h = absurd cc

-- fewer than eight live handles leave one, and the least is one of those
pub free_number : (live : List Event) → length live < 8 → IsFreeNumber live (unwrap_or (find (is_free live) HANDLE_NUMBERS) 0)
free_number live few = go (find (is_free live) HANDLE_NUMBERS) refl where
  go : (o : Option ℕ) → find (is_free live) HANDLE_NUMBERS ≡ o → IsFreeNumber live (unwrap_or o 0)
  go None none = let all = all_taken live none in absurd (omega (arith, all, few))
  go (Some n) is =
      let f = found_is (is_free live) HANDLE_NUMBERS n is in
      record { within = number_within n f.stands; unused = not-true (has_handle live n) (sym (free_is live n) ∙ f.passes); free = none_from (find (λ o. handle_of o == n) live) f.passes }
