-- What follows of a list of fixed room.
use Rattle.std.proofs.Common.{◌≡◌, ℕ, ◌+◌, ◌-◌, ◌<◌, ◌≤◌, List, ◌++◌, length, drop, replicate, get_or, inl, inr, refl, sym, ap, ◌∙◌, arith}
use Rattle.std.proofs.Props.{props}
use Rattle.std.proofs.lemmas.Bool.{cases_lt}
use Rattle.std.proofs.lemmas.List.{drop_at, drop-replicate, get_or-drop, get_or-replicate, get_or-take, get_or_append_left, get_or-append_right, get_or_past, length-replicate, length-take-le, take-append-drop}
use mathlib.Core.HLevel.{is_prop→PathP}
use Rattle.fixed_list.specs.declared.FixedList.{FixedList, whole-type}
use Rattle.fixed_list.specs.FixedList.{list_of}

-- zeros stay after bytes that are copied over the front
pub drop-copied : (n : ℕ) (bytes copied : List ℕ) → copied ≡ bytes → drop (length bytes) (copied ++ drop (length bytes) (replicate n 0)) ≡ replicate (n - length bytes) 0
drop-copied n bytes copied e = drop_at copied (drop (length bytes) (replicate n 0)) (length bytes) (ap length e) ∙ drop-replicate (length bytes) n 0

-- what is zero where it is anything is below 256
get_or-replicate_zero : (n k : ℕ) → get_or (replicate n 0) k 0 < 256
get_or-replicate_zero n k =
    elim (cases_lt k n) [
      | inl lt ↦ rw (get_or-replicate {A = ℕ} n k 0 0 lt) (omega arith)
      | inr le ↦ rw (get_or_past {X = ℕ} (replicate n 0) k 0 (omega (arith, length-replicate {A = ℕ} n 0))) (omega arith)
    ]

-- bytes with zeros after them are bytes
pub get_or-copied : (n m : ℕ) (bytes copied : List ℕ) → copied ≡ bytes → ((k : ℕ) → get_or bytes k 0 < 256) → (k : ℕ) → get_or (copied ++ drop m (replicate n 0)) k 0 < 256
get_or-copied n m bytes copied e small k =
    elim (cases_lt k (length copied)) [
      | inl lt ↦ rw (get_or_append_left copied (drop m (replicate n 0)) 0 k lt, e) (small k)
      | inr le ↦ rw (get_or-append_right copied (drop m (replicate n 0)) (length copied) k 0 refl le, get_or-drop {A = ℕ} m (replicate n 0) (k - length copied) 0) (get_or-replicate_zero n (m + (k - length copied)))
    ]

-- the list has as many bytes as its length says
pub length-list_of : {N : ℕ} (l : FixedList N) → length (list_of l) ≡ l.len
unfolding list_of
length-list_of l = length-take-le l.len l.bytes (omega (arith, l.whole, l.within))

-- a list is never longer than its room
pub length-list_of_le : {N : ℕ} (l : FixedList N) → length (list_of l) ≤ N
length-list_of_le l = omega (arith, length-list_of l, l.within)

-- each byte is below 256
pub get_or-list_of : {N : ℕ} (l : FixedList N) (i : ℕ) → get_or (list_of l) i 0 < 256
unfolding list_of
get_or-list_of l i =
    elim (cases_lt i l.len) [
      | inl lt ↦ rw (get_or-take l.len l.bytes i 0 lt) (l.small i)
      | inr le ↦ rw (get_or_past (list_of l) i 0 (omega (arith, length-list_of l))) (omega arith)
    ]

-- what stands in the fields is the value
same_from_fields : {N : ℕ} (a b : FixedList N) → a.bytes ≡ b.bytes → a.len ≡ b.len → a ≡ b
same_from_fields {N} a b p q = λ i. record {
  bytes = p i;
  len = q i;
  whole = is_prop→PathP (λ j. whole-type N (p j) (q j)) (λ j. hlevel props) a.whole b.whole i;
  small = is_prop→PathP (λ j. (k : ℕ) → get_or (p j) k 0 < 256) (λ j. hlevel props) a.small b.small i;
  within = is_prop→PathP (λ j. q j ≤ N) (λ j. hlevel props) a.within b.within i;
  padded = is_prop→PathP (λ j. drop (q j) (p j) ≡ replicate (N - q j) 0) (λ j. hlevel props) a.padded b.padded i;
}

-- equal lists are equal values
pub same_from_list_of : {N : ℕ} (a b : FixedList N) → list_of a ≡ list_of b → a ≡ b
unfolding list_of
same_from_list_of {N} a b e =
    let q : a.len ≡ b.len = sym (length-list_of a) ∙ ap length e ∙ length-list_of b in
    let rest : drop a.len a.bytes ≡ drop b.len b.bytes = a.padded ∙ ap (λ (n : ℕ). replicate (N - n) 0) q ∙ sym b.padded in
    same_from_fields a b (sym (take-append-drop a.len a.bytes) ∙ ap (λ (x : List ℕ). x ++ drop a.len a.bytes) e ∙ ap (λ (x : List ℕ). list_of b ++ x) rest ∙ take-append-drop b.len b.bytes) q
