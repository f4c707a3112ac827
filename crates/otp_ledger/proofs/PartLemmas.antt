-- The part of the rising array in which an entry stands, if it stands anywhere.
use Rattle.std.proofs.Common.{◌≡◌, ℕ, ◌+◌, ◌-◌, ◌<◌, ◌≤◌, Bool, true, false, ◌||◌, List, length, get_or, take, drop, refl, sym, ap, ◌∙◌, arith, inl, inr, ◌⊎◌}
use Rattle.std.specs.Ordering.{is_eq, is_lt}
use Rattle.std.specs.declared.cmp.Ordering.{Ordering}
use Rattle.std.specs.declared.cmp.Ordering.TheVariants.{Less, Equal, Greater}
use Rattle.std.proofs.lemmas.Bool.{cases_lt}
use Rattle.std.proofs.lemmas.List.{get_or-drop, get_or-take, get_or_default, length-drop, length-take, take-append-drop}
use Rattle.std.proofs.lemmas.List.Elements.{All-from_get_or}
use Rattle.std.proofs.lemmas.List.Folds.{list_any-append, list_any_none}
use Rattle.otp_ledger.specs.declared.kept.Kept.{Kept}
use Rattle.otp_ledger.specs.Kept.{IsRising, IsStart, IsStop, has_entry, is_entry, kept_cmp}
use Rattle.otp_ledger.proofs.KeptLemmas.{entry_is, kept_total, turned}

less_from : (o : Ordering) → is_lt o ≡ true → o ≡ Less
less_from Less is = refl
less_from Equal is = absurd cc
less_from Greater is = absurd cc

-- where the entry before a place is below another, all before it are
pub start_from : (kept : List Kept) (first : ℕ) (entry e : Kept) → IsRising kept → 0 < first → first ≤ length kept → is_lt (kept_cmp (get_or kept (first - 1) e) entry) ≡ true → IsStart kept first entry
start_from kept first entry e r some le is = record { below = λ k d lt. go k d lt (cases_lt k (first - 1)) } where
  last : (d : Kept) → kept_cmp (get_or kept (first - 1) d) entry ≡ Less
  last d = ap (λ x. kept_cmp x entry) (get_or_default kept (first - 1) d e (omega arith)) ∙ less_from _ is

  go : (k : ℕ) (d : Kept) → k < first → (k < first - 1) ⊎ (first - 1 ≤ k) → kept_cmp (get_or kept k d) entry ≡ Less
  go k d lt (inl low) = kept_total.trans (get_or kept k d) (get_or kept (first - 1) d) entry (r.rises k (first - 1) d low (omega arith)) (last d)
  go k d lt (inr high) =
      let here : k ≡ first - 1 = omega arith in
      ap (λ n. kept_cmp (get_or kept n d) entry) here ∙ last d

-- where an entry is below the one at a place, it is below all from there on
pub stop_from : (kept : List Kept) (end : ℕ) (entry e : Kept) → IsRising kept → end < length kept → is_lt (kept_cmp entry (get_or kept end e)) ≡ true → IsStop kept end entry
stop_from kept end entry e r within is = record { above = λ k d le lt. turned entry (get_or kept k d) (go k d le lt (cases_lt end k)) } where
  own : (d : Kept) → kept_cmp entry (get_or kept end d) ≡ Less
  own d = ap (kept_cmp entry) (get_or_default kept end d e within) ∙ less_from _ is

  go : (k : ℕ) (d : Kept) → end ≤ k → k < length kept → (end < k) ⊎ (k ≤ end) → kept_cmp entry (get_or kept k d) ≡ Less
  go k d le lt (inl past) = kept_total.trans entry (get_or kept end d) (get_or kept k d) (own d) (r.rises end k d past lt)
  go k d le lt (inr low) =
      let here : k ≡ end = omega arith in
      ap (λ n. kept_cmp entry (get_or kept n d)) here ∙ own d

abbrev pub part : List Kept → ℕ → ℕ → List Kept
part kept first end = take (end - first) (drop first kept)

none_before : (kept : List Kept) (first : ℕ) (entry : Kept) → first ≤ length kept → IsStart kept first entry → has_entry entry.account entry.password (take first kept) ≡ false
none_before kept first entry le s = list_any_none (is_entry entry.account entry.password) (take first kept) (All-from_get_or (λ k. is_entry entry.account entry.password k ≡ false) (take first kept) entry (λ k lt. go k (omega (arith, lt, length-take first kept)))) where
  go : (k : ℕ) → k < first → is_entry entry.account entry.password (get_or (take first kept) k entry) ≡ false
  go k lt = ap (is_entry entry.account entry.password) (get_or-take first kept k entry lt) ∙ entry_is (get_or kept k entry) entry ∙ ap is_eq (s.below k entry lt)

none_behind : (kept : List Kept) (first end : ℕ) (entry : Kept) → first ≤ end → end ≤ length kept → IsStop kept end entry → has_entry entry.account entry.password (drop (end - first) (drop first kept)) ≡ false
none_behind kept first end entry order le s = list_any_none (is_entry entry.account entry.password) (drop (end - first) (drop first kept)) (All-from_get_or (λ k. is_entry entry.account entry.password k ≡ false) (drop (end - first) (drop first kept)) entry (λ k lt. go k (omega (arith, lt, length-drop (end - first) (drop first kept), length-drop first kept)))) where
  go : (k : ℕ) → end + k < length kept → is_entry entry.account entry.password (get_or (drop (end - first) (drop first kept)) k entry) ≡ false
  go k lt =
      let place : first + (end - first + k) ≡ end + k = omega arith in
      ap (is_entry entry.account entry.password) (get_or-drop (end - first) (drop first kept) k entry ∙ get_or-drop first kept (end - first + k) entry ∙ ap (λ n. get_or kept n entry) place)
      ∙ entry_is (get_or kept (end + k) entry) entry
      ∙ ap is_eq (s.above (end + k) entry (omega arith) lt)

or_false : (b : Bool) → (b || false) ≡ b
or_false true = refl
or_false false = refl

-- an entry that can stand nowhere else is in the part where it is in the array
pub entry_in_part : (kept : List Kept) (first end : ℕ) (entry : Kept) → first ≤ end → end ≤ length kept → IsStart kept first entry → IsStop kept end entry → has_entry entry.account entry.password (part kept first end) ≡ has_entry entry.account entry.password kept
entry_in_part kept first end entry order le start stop = sym whole where
  whole : has_entry entry.account entry.password kept ≡ has_entry entry.account entry.password (part kept first end)
  whole =
      ap (has_entry entry.account entry.password) (sym (take-append-drop first kept))
      ∙ list_any-append (is_entry entry.account entry.password) (take first kept) (drop first kept)
      ∙ ap (λ b. b || has_entry entry.account entry.password (drop first kept)) (none_before kept first entry (omega arith) start)
      ∙ ap (has_entry entry.account entry.password) (sym (take-append-drop (end - first) (drop first kept)))
      ∙ list_any-append (is_entry entry.account entry.password) (part kept first end) (drop (end - first) (drop first kept))
      ∙ ap (λ b. has_entry entry.account entry.password (part kept first end) || b) (none_behind kept first end entry order le stop)
      ∙ or_false (has_entry entry.account entry.password (part kept first end))
