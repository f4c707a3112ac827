-- Two rising arrays, merged in the room of one from the greatest entry on.
use Rattle.std.proofs.Common.{◌≡◌, ℕ, ◌+◌, ◌-◌, ◌<◌, ◌≤◌, Bool, true, false, ◌||◌, List, ◌∷◌, [], ◌++◌, length, get_or, take, drop, refl, sym, ap, subst, ◌∙◌, arith, inl, inr, ◌⊎◌, length-append, length-drop, length-take, length-take-le, take-take}
use Rattle.std.proofs.lemmas.Bool.{cases_lt}
use Rattle.std.proofs.lemmas.Bool.Decides.{nat_tests}
use Rattle.std.proofs.lemmas.List.{drop-drop, drop-take, drop_all, drop_more, get_or-append_right, get_or-drop, get_or-take, get_or_append_left, take-append-drop, take_all}
use Rattle.std.proofs.lemmas.List.Folds.{list_any-append, list_any_at}
use Rattle.std.specs.declared.cmp.Ordering.TheVariants.{Less}
use Rattle.otp_ledger.specs.declared.kept.Kept.{Kept}
use Rattle.otp_ledger.specs.Kept.{AreSplit, IsMerged, IsMovedUp, IsRising, has_entry, is_entry, kept_cmp}
use Rattle.otp_ledger.proofs.KeptLemmas.{kept_total, turned_back}

-- each entry of one list is below each of another
pub record AreBelow (xs ys : List Kept) : Type 0 where
  pub less : (i j : ℕ) (d : Kept) → i < length xs → j < length ys → kept_cmp (get_or xs i d) (get_or ys j d) ≡ Less

joined : (x y u v : Kept) → x ≡ u → y ≡ v → kept_cmp u v ≡ Less → kept_cmp x y ≡ Less
joined x y u v p q h = subst (λ z. kept_cmp z y ≡ Less) (sym p) (subst (λ z. kept_cmp u z ≡ Less) (sym q) h)

pub rising_nil : IsRising []
rising_nil = record { rises = λ i j d lt bound. absurd (omega arith) }

rising_one : (entry : Kept) → IsRising (entry ∷ [])
rising_one entry = record { rises = λ i j d lt bound. absurd (omega arith) }

pub rising_take : (n : ℕ) (xs : List Kept) → IsRising xs → IsRising (take n xs)
rising_take n xs r = record { rises = λ i j d lt bound. go i j d lt (omega (arith, bound, length-take n xs)) (omega (arith, bound, length-take n xs)) } where
  go : (i j : ℕ) (d : Kept) → i < j → j < n → j < length xs → kept_cmp (get_or (take n xs) i d) (get_or (take n xs) j d) ≡ Less
  go i j d lt low in' = joined _ _ _ _ (get_or-take n xs i d (omega arith)) (get_or-take n xs j d low) (r.rises i j d lt in')

rising_drop : (n : ℕ) (xs : List Kept) → IsRising xs → IsRising (drop n xs)
rising_drop n xs r = record { rises = λ i j d lt bound. joined _ _ _ _ (get_or-drop n xs i d) (get_or-drop n xs j d) (r.rises (n + i) (n + j) d (omega arith) (omega (arith, bound, length-drop n xs))) }

-- two rising lists, one after the other
rising_append : (xs ys : List Kept) → IsRising xs → IsRising ys → AreBelow xs ys → IsRising (xs ++ ys)
rising_append xs ys rx ry below = record { rises = λ i j d lt bound. go i j d lt (omega (arith, bound, length-append xs ys)) (cases_lt j (length xs)) (cases_lt i (length xs)) } where
  right : (k : ℕ) (d : Kept) → length xs ≤ k → get_or (xs ++ ys) k d ≡ get_or ys (k - length xs) d
  right k d le = get_or-append_right xs ys (length xs) k d refl le

  go : (i j : ℕ) (d : Kept) → i < j → j < length xs + length ys → (j < length xs) ⊎ (length xs ≤ j) → (i < length xs) ⊎ (length xs ≤ i) → kept_cmp (get_or (xs ++ ys) i d) (get_or (xs ++ ys) j d) ≡ Less
  go i j d lt bound (inl low) side = joined _ _ _ _ (get_or_append_left xs ys d i (omega arith)) (get_or_append_left xs ys d j low) (rx.rises i j d lt low)
  go i j d lt bound (inr high) (inl low) = joined _ _ _ _ (get_or_append_left xs ys d i low) (right j d high) (below.less i (j - length xs) d low (omega arith))
  go i j d lt bound (inr high) (inr over) = joined _ _ _ _ (right i d over) (right j d high) (ry.rises (i - length xs) (j - length xs) d (omega arith) (omega arith))

below_append : (xs ys zs : List Kept) → AreBelow xs ys → AreBelow xs zs → AreBelow xs (ys ++ zs)
below_append xs ys zs first second = record { less = λ i j d lt bound. go i j d lt (omega (arith, bound, length-append ys zs)) (cases_lt j (length ys)) } where
  go : (i j : ℕ) (d : Kept) → i < length xs → j < length ys + length zs → (j < length ys) ⊎ (length ys ≤ j) → kept_cmp (get_or xs i d) (get_or (ys ++ zs) j d) ≡ Less
  go i j d lt bound (inl low) = joined _ _ _ _ refl (get_or_append_left ys zs d j low) (first.less i j d lt low)
  go i j d lt bound (inr high) = joined _ _ _ _ refl (get_or-append_right ys zs (length ys) j d refl high) (second.less i (j - length ys) d lt (omega arith))

below_take : (n m : ℕ) (xs ys : List Kept) → n ≤ m → AreBelow (take m xs) ys → AreBelow (take n xs) ys
below_take n m xs ys le below = record { less = λ i j d lt bound. go i j d (omega (arith, lt, length-take n xs)) (omega (arith, lt, length-take n xs)) bound } where
  go : (i j : ℕ) (d : Kept) → i < n → i < length xs → j < length ys → kept_cmp (get_or (take n xs) i d) (get_or ys j d) ≡ Less
  go i j d low in' bound = joined _ _ _ _ (get_or-take n xs i d low ∙ sym (get_or-take m xs i d (omega arith))) refl (below.less i j d (omega (arith, length-take m xs)) bound)

-- a part of the front is below what the whole front is below
below_part : (place end : ℕ) (xs ys : List Kept) → AreBelow (take end xs) ys → AreBelow (take (end - place) (drop place xs)) ys
below_part place end xs ys below = record { less = λ i j d lt bound. go i j d (omega (arith, lt, length-take (end - place) (drop place xs))) (omega (arith, lt, length-take (end - place) (drop place xs), length-drop place xs)) bound } where
  go : (i j : ℕ) (d : Kept) → i < end - place → place + i < length xs → j < length ys → kept_cmp (get_or (take (end - place) (drop place xs)) i d) (get_or ys j d) ≡ Less
  go i j d low in' bound = joined _ _ _ _ (get_or-take (end - place) (drop place xs) i d low ∙ get_or-drop place xs i d ∙ sym (get_or-take end xs (place + i) d (omega arith))) refl (below.less (place + i) j d (omega (arith, length-take end xs)) bound)

below_one : (xs ys : List Kept) (entry : Kept) (i : ℕ) → i < length xs → ((d : Kept) → get_or xs i d ≡ entry) → AreBelow xs ys → AreBelow (entry ∷ []) ys
below_one xs ys entry i lt is below = record { less = λ k j d low bound. go k j d (omega arith) bound } where
  go : (k j : ℕ) (d : Kept) → k ≡ 0 → j < length ys → kept_cmp (get_or (entry ∷ []) k d) (get_or ys j d) ≡ Less
  go k j d first bound = joined _ _ _ _ (ap (λ n. get_or (entry ∷ []) n d) first ∙ sym (is d)) refl (below.less i j d lt bound)

-- a list is below an entry
below_entry : (xs : List Kept) (entry : Kept) → ((i : ℕ) (d : Kept) → i < length xs → kept_cmp (get_or xs i d) entry ≡ Less) → AreBelow xs (entry ∷ [])
below_entry xs entry h = record { less = λ i j d lt bound. go i j d lt (omega arith) } where
  go : (i j : ℕ) (d : Kept) → i < length xs → j ≡ 0 → kept_cmp (get_or xs i d) (get_or (entry ∷ []) j d) ≡ Less
  go i j d lt first = joined _ _ _ _ refl (ap (λ n. get_or (entry ∷ []) n d) first) (h i d lt)

above_entry : (xs : List Kept) (entry : Kept) → ((i : ℕ) (d : Kept) → i < length xs → kept_cmp entry (get_or xs i d) ≡ Less) → AreBelow (entry ∷ []) xs
above_entry xs entry h = record { less = λ i j d low bound. go i j d (omega arith) bound } where
  go : (i j : ℕ) (d : Kept) → i ≡ 0 → j < length xs → kept_cmp (get_or (entry ∷ []) i d) (get_or xs j d) ≡ Less
  go i j d first bound = joined _ _ _ _ (ap (λ n. get_or (entry ∷ []) n d) first) refl (h j d bound)

-- what is below an entry is below what the entry is below
below_over : (xs ys : List Kept) (entry : Kept) → AreBelow xs (entry ∷ []) → AreBelow (entry ∷ []) ys → AreBelow xs ys
below_over xs ys entry low high = record { less = λ i j d lt bound. kept_total.trans (get_or xs i d) entry (get_or ys j d) (low.less i 0 d lt (omega arith)) (high.less 0 j d (omega arith) bound) }

pub below_nil : (xs : List Kept) → AreBelow xs []
below_nil xs = record { less = λ i j d lt bound. absurd (omega arith) }

-- a merge underway: the first entries still stand where they stood, and after the places of those that are left the greatest are merged
pub record IsMerging (settled recent items : List Kept) (end left : ℕ) : Type 0 where
  pub end_within : end ≤ length settled
  pub left_within : left ≤ length recent
  pub long : length items ≡ length settled + length recent
  pub front : take end items ≡ take end settled
  pub rising : IsRising (drop (end + left) items)
  pub entries : (account password : ℕ) → has_entry account password (drop (end + left) items) ≡ (has_entry account password (drop end settled) || has_entry account password (drop left recent))
  pub settled_below : AreBelow (take end settled) (drop (end + left) items)
  pub recent_below : AreBelow (take left recent) (drop (end + left) items)

pub merging_starts : (items recent : List Kept) (end : ℕ) → length items ≡ end + length recent → IsMerging (take end items) recent items end (length recent)
merging_starts items recent end long =
    let none : drop (end + length recent) items ≡ [] = drop_all (end + length recent) items (omega arith) in
    let settled_long : length (take end items) ≡ end = length-take-le end items (omega arith) in
    let no_settled : drop end (take end items) ≡ [] = drop_all end (take end items) (omega arith) in
    let no_recent : drop (length recent) recent ≡ [] = drop_all (length recent) recent (omega arith) in
    record {
      end_within = omega arith;
      left_within = omega arith;
      long = omega arith;
      front = sym (take_all end (take end items) (omega arith));
      rising = subst IsRising (sym none) rising_nil;
      entries = λ account password. ap (has_entry account password) none ∙ sym (ap (λ l. has_entry account password l || has_entry account password (drop (length recent) recent)) no_settled ∙ ap (has_entry account password) no_recent);
      settled_below = subst (AreBelow (take end (take end items))) (sym none) (below_nil (take end (take end items)));
      recent_below = subst (AreBelow (take (length recent) recent)) (sym none) (below_nil (take (length recent) recent));
    }

-- once none is left, the array is merged
pub merging_ends : (settled recent items : List Kept) (end left : ℕ) → left ≡ 0 → AreSplit settled recent → IsMerging settled recent items end left → IsMerged settled recent items
merging_ends settled recent items end left none split m = record { rising = subst IsRising (sym whole) (rising_append (take end settled) (drop (end + left) items) (rising_take end settled split.settled_rises) m.rising m.settled_below); entries = entries } where
  whole : items ≡ take end settled ++ drop (end + left) items
  whole =
      let at : end ≡ end + left = omega arith in
      sym (take-append-drop end items) ∙ ap (λ l. l ++ drop end items) m.front ∙ ap (λ n. take end settled ++ drop n items) at

  or_assoc : (a b c : Bool) → (a || (b || c)) ≡ ((a || b) || c)
  or_assoc true b c = refl
  or_assoc false b c = refl

  entries : (account password : ℕ) → has_entry account password items ≡ (has_entry account password settled || has_entry account password recent)
  entries account password =
      ap (has_entry account password) whole
      ∙ list_any-append (is_entry account password) (take end settled) (drop (end + left) items)
      ∙ ap (λ b. has_entry account password (take end settled) || b) (m.entries account password ∙ ap (λ n. has_entry account password (drop end settled) || has_entry account password (drop n recent)) none)
      ∙ or_assoc (has_entry account password (take end settled)) (has_entry account password (drop end settled)) (has_entry account password recent)
      ∙ ap (λ b. b || has_entry account password recent) (sym (list_any-append (is_entry account password) (take end settled) (drop end settled)) ∙ ap (has_entry account password) (take-append-drop end settled))

own_entry : (entry : Kept) → is_entry entry.account entry.password entry ≡ true
own_entry entry = grind (arith, nat_tests)

-- an entry of the small array isn't in the large one, nor in its front
pub absent_in : (settled recent : List Kept) (left : ℕ) (entry : Kept) → AreSplit settled recent → left < length recent → ((d : Kept) → get_or recent left d ≡ entry) → has_entry entry.account entry.password settled ≡ false
absent_in settled recent left entry split lt is = split.apart entry.account entry.password (list_any_at (is_entry entry.account entry.password) recent left entry lt (ap (is_entry entry.account entry.password) (is entry) ∙ own_entry entry))

pub absent_in_front : (settled items : List Kept) (end account password : ℕ) → take end items ≡ take end settled → has_entry account password settled ≡ false → has_entry account password (take end items) ≡ false
absent_in_front settled items end account password front none = ap (has_entry account password) front ∙ go (has_entry account password (take end settled)) (has_entry account password (drop end settled)) (sym (list_any-append (is_entry account password) (take end settled) (drop end settled)) ∙ ap (has_entry account password) (take-append-drop end settled) ∙ none) where
  go : (a b : Bool) → (a || b) ≡ false → a ≡ false
  go false b h = refl
  go true b h = absurd cc

-- one entry more is at its place
pub merging_goes_on : (settled recent items new : List Kept) (end left place : ℕ) (entry : Kept) → AreSplit settled recent → IsMerging settled recent items end (left + 1) → ((d : Kept) → get_or recent left d ≡ entry) → length new ≡ length items → IsMovedUp items end left entry place new → IsMerging settled recent new place left
merging_goes_on settled recent items new end left place entry split m is same up = record {
  end_within = omega (arith, m.end_within, place_within);
  left_within = omega (arith, m.left_within);
  long = same ∙ m.long;
  front = up.front ∙ sym (take-take place end items place_within) ∙ ap (take place) m.front ∙ take-take place end settled place_within;
  rising = subst IsRising (sym rest) (rising_append (entry ∷ []) (moved ++ last) (rising_one entry) (rising_append moved last (rising_take (end - place) (drop place settled) (rising_drop place settled split.settled_rises)) last_rising (below_part place end settled last settled_last)) (below_append (entry ∷ []) moved last entry_moved entry_last));
  entries = entries;
  settled_below = subst (AreBelow (take place settled)) (sym rest) (below_append (take place settled) (entry ∷ []) (moved ++ last) front_entry (below_append (take place settled) moved last (below_over (take place settled) moved entry front_entry entry_moved) (below_take place end settled last place_within settled_last)));
  recent_below = subst (AreBelow (take left recent)) (sym rest) (below_append (take left recent) (entry ∷ []) (moved ++ last) recent_entry (below_append (take left recent) moved last (below_over (take left recent) moved entry recent_entry entry_moved) (below_take left (left + 1) recent last (omega arith) recent_last)));
} where
  place_within : place ≤ end
  place_within = omega (arith, up.gap.in_range, length-take end items)

  left_in : left < length recent
  left_in = omega (arith, m.left_within)

  front_long : length (take end items) ≡ end
  front_long = length-take-le end items (omega (arith, m.long, m.end_within))

  moved : List Kept
  moved = take (end - place) (drop place settled)

  last : List Kept
  last = drop (end + left + 1) items

  at : end + (left + 1) ≡ end + left + 1
  at = omega arith

  last_rising : IsRising last
  last_rising = subst (λ n. IsRising (drop n items)) at m.rising

  settled_last : AreBelow (take end settled) last
  settled_last = subst (λ n. AreBelow (take end settled) (drop n items)) at m.settled_below

  recent_last : AreBelow (take (left + 1) recent) last
  recent_last = subst (λ n. AreBelow (take (left + 1) recent) (drop n items)) at m.recent_below

  sum : place + (end - place) ≡ end
  sum = omega (arith, place_within)

  part : (xs : List Kept) → take (end - place) (drop place xs) ≡ drop place (take end xs)
  part xs = sym (drop-take place (end - place) xs) ∙ ap (λ n. drop place (take n xs)) sum

  rest : drop (place + left) new ≡ (entry ∷ []) ++ (moved ++ last)
  rest = up.rest ∙ ap (λ l. entry ∷ (l ++ last)) (part items ∙ ap (drop place) m.front ∙ sym (part settled))

  entry_moved : AreBelow (entry ∷ []) moved
  entry_moved = subst (AreBelow (entry ∷ [])) (ap (drop place) m.front ∙ sym (part settled)) (above_entry (drop place (take end items)) entry (λ i d lt. joined _ _ _ _ refl (get_or-drop place (take end items) i d) (turned_back (get_or (take end items) (place + i) d) entry (up.gap.above (place + i) d (omega arith) (omega (arith, lt, length-drop place (take end items)))))))

  entry_last : AreBelow (entry ∷ []) last
  entry_last = below_one (take (left + 1) recent) last entry left (omega (arith, left_in, length-take-le (left + 1) recent (omega (arith, left_in)))) (λ d. get_or-take (left + 1) recent left d (omega arith) ∙ is d) recent_last

  front_entry : AreBelow (take place settled) (entry ∷ [])
  front_entry = below_entry (take place settled) entry (λ i d lt. low i d (omega (arith, lt, length-take place settled))) where
    low : (i : ℕ) (d : Kept) → i < place → kept_cmp (get_or (take place settled) i d) entry ≡ Less
    low i d lt = joined _ _ _ _ (get_or-take place settled i d lt ∙ sym (get_or-take end settled i d (omega (arith, place_within))) ∙ ap (λ l. get_or l i d) (sym m.front)) refl (up.gap.below i d lt)

  recent_entry : AreBelow (take left recent) (entry ∷ [])
  recent_entry = below_entry (take left recent) entry (λ i d lt. low i d (omega (arith, lt, length-take left recent))) where
    low : (i : ℕ) (d : Kept) → i < left → kept_cmp (get_or (take left recent) i d) entry ≡ Less
    low i d lt = joined _ _ _ _ (get_or-take left recent i d lt) (sym (is d)) (split.recent_rises.rises i left d lt left_in)

  shuffled : (e a b c : Bool) → (e || (a || (b || c))) ≡ ((a || b) || (e || c))
  shuffled true true b c = refl
  shuffled true false true c = refl
  shuffled true false false c = refl
  shuffled false true b c = refl
  shuffled false false true c = refl
  shuffled false false false c = refl

  settled_parts : drop place settled ≡ moved ++ drop end settled
  settled_parts = sym (take-append-drop (end - place) (drop place settled)) ∙ ap (λ l. moved ++ l) (drop-drop (end - place) place settled ∙ ap (λ n. drop n settled) sum)

  recent_parts : drop left recent ≡ entry ∷ drop (left + 1) recent
  recent_parts = drop_more recent left entry left_in ∙ ap (λ e. e ∷ drop (left + 1) recent) (is entry)

  entries : (account password : ℕ) → has_entry account password (drop (place + left) new) ≡ (has_entry account password (drop place settled) || has_entry account password (drop left recent))
  entries account password =
      ap (has_entry account password) rest
      ∙ ap (λ b. is_entry account password entry || b) (list_any-append (is_entry account password) moved last ∙ ap (λ b. has_entry account password moved || b) (ap (λ n. has_entry account password (drop n items)) (sym at) ∙ m.entries account password))
      ∙ shuffled (is_entry account password entry) (has_entry account password moved) (has_entry account password (drop end settled)) (has_entry account password (drop (left + 1) recent))
      ∙ sym (ap (λ b. b || has_entry account password (drop left recent)) (ap (has_entry account password) settled_parts ∙ list_any-append (is_entry account password) moved (drop end settled))
      ∙ ap (λ l. (has_entry account password moved || has_entry account password (drop end settled)) || has_entry account password l) recent_parts)
