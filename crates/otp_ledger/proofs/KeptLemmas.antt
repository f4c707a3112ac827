-- What a search in the rising array finds, and what an insertion makes of it.
use Rattle.std.proofs.Common.{◌≡◌, ℕ, ◌+◌, ◌-◌, ◌*◌, ◌^◌, ◌<◌, ◌≤◌, Bool, true, false, ◌||◌, List, ◌∷◌, length, get_or, Result, Ok, Err, IfOk, IfErr, is_ok, refl, sym, ap, subst, ◌∙◌, arith, inl, inr, ◌⊎◌}
use Rattle.std.specs.List.{insert}
use Rattle.std.specs.List.Sorted.{IsBinarySearchResult, IsNonDecreasingBy, IsSearchInRange}
use Rattle.std.specs.Ordering.{is_eq, is_lt, nat_cmp, ordering_index, ordering_reverse, ordering_then}
use Rattle.std.specs.Cmp.{IsTotalOrder}
use Rattle.std.specs.declared.cmp.Ordering.TheVariants.{Less, Equal, Greater}
use Rattle.std.proofs.lemmas.Bool.{cases_lt}
use Rattle.std.proofs.lemmas.Bool.Decides.{nat_tests}
use Rattle.std.proofs.lemmas.Cmp.{nat_cmp_total, on_total, then_total}
use Rattle.std.proofs.lemmas.List.Edits.{get_or-insert_above, get_or-insert_at, get_or-insert_below, length-insert}
use Rattle.std.proofs.lemmas.List.Elements.{All-from_get_or}
use Rattle.std.proofs.lemmas.List.Folds.{list_any_at, list_any_none}
use Rattle.std.proofs.lemmas.List.Sorted.{IsPermutation-insert, list_any-IsPermutation, searchable_from_sorted}
use Rattle.otp_ledger.specs.declared.kept.Kept.{Kept}
use Rattle.otp_ledger.specs.Kept.{IsGap, IsHere, IsRising, has_entry, is_entry, kept_cmp}

pub kept_total : IsTotalOrder kept_cmp
kept_total = then_total (on_total (λ k. k.account) nat_cmp_total) (on_total (λ k. k.password) nat_cmp_total)

-- ranks are compared as accounts are, and where these are the same as passwords are
pub ranks_cmp : (a b p q : ℕ) → p < 2 ^ 64 → q < 2 ^ 64 → nat_cmp (a * 2 ^ 64 + p) (b * 2 ^ 64 + q) ≡ ordering_then (nat_cmp a b) (nat_cmp p q)
ranks_cmp a b p q low high = grind (arith, nat_tests, low, high)

pub turned : (a b : Kept) → kept_cmp a b ≡ Less → kept_cmp b a ≡ Greater
turned a b h = kept_total.antisymm b a ∙ ap ordering_reverse h

pub turned_back : (a b : Kept) → kept_cmp a b ≡ Greater → kept_cmp b a ≡ Less
turned_back a b h = kept_total.antisymm b a ∙ ap ordering_reverse h

-- two entries that compare equal are one
same_entry : (a b : Kept) → kept_cmp a b ≡ Equal → a ≡ b
same_entry a b h =
    let account : a.account ≡ b.account = grind (arith, nat_tests) in
    let password : a.password ≡ b.password = grind (arith, nat_tests) in
    λ i. record { account = account i; password = password i }

-- the comparisons with an entry rise along the array, as a binary search asks
searchable : (kept : List Kept) (entry : Kept) → IsRising kept → IsNonDecreasingBy (λ y. ordering_index (kept_cmp y entry)) kept
searchable kept entry r = searchable_from_sorted kept_total (λ k. k) kept entry (λ k d low lt. ap is_lt (turned (get_or kept k d) (get_or kept (k + 1) d) (r.rises k (k + 1) d (omega arith) lt)))

-- what a search answers
pub entry_found : (kept : List Kept) (entry : Kept) (r : Result ℕ ℕ) → IsSearchInRange r (length kept) → IsBinarySearchResult (λ y. kept_cmp y entry) kept r → IfOk r (IsHere kept entry)
entry_found kept entry (Ok i) bound position = record { in_range = bound; same = λ d. same_entry (get_or kept i d) entry (position d) }
entry_found kept entry (Err i) bound position = tt

-- where a search doesn't find an entry is the gap for it
pub gap_found : (kept : List Kept) (entry : Kept) (r : Result ℕ ℕ) → IsRising kept → IsSearchInRange r (length kept) → IsBinarySearchResult (λ y. kept_cmp y entry) kept r → IfErr r (IsGap kept entry)
gap_found kept entry (Ok i) rising bound position = tt
gap_found kept entry (Err i) rising bound position =
    let parts = position (searchable kept entry rising) in
    record { in_range = bound; below = λ k d lt. parts.0 k d (omega arith) lt; above = λ k d le lt. parts.1 k d le lt }

-- an entry is this one where both compare equal
pub entry_is : (k entry : Kept) → is_entry entry.account entry.password k ≡ is_eq (kept_cmp k entry)
entry_is k entry = grind (arith, nat_tests)

pub here_is : (kept : List Kept) (entry : Kept) (i : ℕ) → IsHere kept entry i → has_entry entry.account entry.password kept ≡ true
here_is kept entry i h = list_any_at (is_entry entry.account entry.password) kept i entry h.in_range (ap (is_entry entry.account entry.password) (h.same entry) ∙ grind (arith, nat_tests))

gap_is : (kept : List Kept) (entry : Kept) (i : ℕ) → IsGap kept entry i → has_entry entry.account entry.password kept ≡ false
gap_is kept entry i h = list_any_none (is_entry entry.account entry.password) kept (All-from_get_or (λ k. is_entry entry.account entry.password k ≡ false) kept entry (λ k lt. go k lt (cases_lt k i))) where
  go : (k : ℕ) → k < length kept → (k < i) ⊎ (i ≤ k) → is_entry entry.account entry.password (get_or kept k entry) ≡ false
  go k lt (inl low) = entry_is (get_or kept k entry) entry ∙ ap is_eq (h.below k entry low)
  go k lt (inr high) = entry_is (get_or kept k entry) entry ∙ ap is_eq (h.above k entry high lt)

-- what a search says of an entry
pub search_is : (kept : List Kept) (entry : Kept) (r : Result ℕ ℕ) → IfOk r (IsHere kept entry) → IfErr r (IsGap kept entry) → is_ok r ≡ has_entry entry.account entry.password kept
search_is kept entry (Ok i) here gap = sym (here_is kept entry i here)
search_is kept entry (Err i) here gap = sym (gap_is kept entry i gap)

-- the array still rises with an entry in its gap
pub rising_insert : (kept : List Kept) (entry : Kept) (i : ℕ) → IsRising kept → IsGap kept entry i → IsRising (insert kept i entry)
rising_insert kept entry i r gap = record { rises = λ a b d lt bound. go a b d lt (omega (arith, bound, length-insert kept i entry gap.in_range)) (cases_lt b i) (cases_lt a i) } where
  low : (a : ℕ) (d : Kept) → a < i → get_or (insert kept i entry) a d ≡ get_or kept a d
  low a d lt = get_or-insert_below kept i entry d a lt gap.in_range

  at : (a : ℕ) (d : Kept) → a ≡ i → get_or (insert kept i entry) a d ≡ entry
  at a d here = ap (λ n. get_or (insert kept i entry) n d) here ∙ get_or-insert_at kept i entry d gap.in_range

  high : (a c : ℕ) (d : Kept) → a ≡ c + 1 → i ≤ c → get_or (insert kept i entry) a d ≡ get_or kept c d
  high a c d is le = ap (λ n. get_or (insert kept i entry) n d) is ∙ get_or-insert_above kept i entry d c le gap.in_range

  joined : (x y u v : Kept) → x ≡ u → y ≡ v → kept_cmp u v ≡ Less → kept_cmp x y ≡ Less
  joined x y u v p q h = subst (λ z. kept_cmp z y ≡ Less) (sym p) (subst (λ z. kept_cmp u z ≡ Less) (sym q) h)

  same : (a : ℕ) → i ≤ a → (a ≡ i) ⊎ (i ≤ a - 1)
  same a le = elim (cases_lt i a) [ inl lt ↦ inr (omega arith) | inr ge ↦ inl (omega arith) ]

  above : (a b : ℕ) (d : Kept) → a < b → b < length kept + 1 → i ≤ b - 1 → i < b → (a < i) ⊎ (i ≤ a) → kept_cmp (get_or (insert kept i entry) a d) (get_or (insert kept i entry) b d) ≡ Less
  above a b d lt bound le up (inl under) = joined _ _ (get_or kept a d) (get_or kept (b - 1) d) (low a d under) (high b (b - 1) d (omega arith) le) (r.rises a (b - 1) d (omega arith) (omega arith))
  above a b d lt bound le up (inr over) = elim (same a over) [
    | inl here ↦ joined _ _ entry (get_or kept (b - 1) d) (at a d here) (high b (b - 1) d (omega arith) le) (turned_back (get_or kept (b - 1) d) entry (gap.above (b - 1) d le (omega arith)))
    | inr more ↦ elim (cases_lt i a) [
      | inl past ↦ joined _ _ (get_or kept (a - 1) d) (get_or kept (b - 1) d) (high a (a - 1) d (omega arith) more) (high b (b - 1) d (omega arith) le) (r.rises (a - 1) (b - 1) d (omega arith) (omega arith))
      | inr ge ↦ joined _ _ entry (get_or kept (b - 1) d) (at a d (omega arith)) (high b (b - 1) d (omega arith) le) (turned_back (get_or kept (b - 1) d) entry (gap.above (b - 1) d le (omega arith)))
    ]
  ]

  go : (a b : ℕ) (d : Kept) → a < b → b < length kept + 1 → (b < i) ⊎ (i ≤ b) → (a < i) ⊎ (i ≤ a) → kept_cmp (get_or (insert kept i entry) a d) (get_or (insert kept i entry) b d) ≡ Less
  go a b d lt bound (inl under) side = joined _ _ (get_or kept a d) (get_or kept b d) (low a d (omega arith)) (low b d under) (r.rises a b d lt (omega (arith, gap.in_range)))
  go a b d lt bound (inr over) side = elim (cases_lt i b) [
    | inl past ↦ above a b d lt bound (omega arith) past side
    | inr ge ↦ joined _ _ (get_or kept a d) entry (low a d (omega arith)) (at b d (omega arith)) (gap.below a d (omega arith))
  ]

-- an insertion adds this entry
pub entries_insert : (kept : List Kept) (entry : Kept) (i account password : ℕ) → has_entry account password (insert kept i entry) ≡ (is_entry account password entry || has_entry account password kept)
entries_insert kept entry i account password = sym (list_any-IsPermutation (is_entry account password) (entry ∷ kept) (insert kept i entry) (IsPermutation-insert kept i entry))

-- an entry that is there is no news
pub entries_there : (kept : List Kept) (entry : Kept) (i account password : ℕ) → IsHere kept entry i → has_entry account password kept ≡ (is_entry account password entry || has_entry account password kept)
entries_there kept entry i account password here = go (is_entry account password entry) refl where
  go : (b : Bool) → is_entry account password entry ≡ b → has_entry account password kept ≡ (b || has_entry account password kept)
  go false is = refl
  go true is = list_any_at (is_entry account password) kept i entry here.in_range (ap (is_entry account password) (here.same entry) ∙ is)
