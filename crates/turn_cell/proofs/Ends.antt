-- How a cell begins and ends, and the lists of its passes.
use Rattle.std.proofs.Common.{◌≡◌, ℕ, zero, suc, subst, ◌<◌, ◌≢◌, List, [], ◌∷◌, ◌++◌, sym, refl, ap, ◌∙◌, inl, inr, ⊎_elim, arith, length-append, true, false}
use Rattle.std.specs.Prelude.{length, slice_index_or, slice_set}
use Rattle.std.specs.List.{All}
use Rattle.std.proofs.lemmas.Bool.{false≢true}
use mathlib.Core.Option.{some, some-injective}
use lib.ListN.{get_elem?}
use mathlib.Core.Logic.{dite}
use native.Mathlib.Decide.{ℕ_discrete}
use Rattle.atomic_table.specs.Table.{State, Final, Seen}
use Rattle.turn_cell.specs.declared.view.View.{View}
use Rattle.turn_cell.specs.declared.view.Mark.{Mark}
use Rattle.turn_cell.specs.Facts.{StartsWith, replies_of, IsWithin, PassFacts, CellFacts, first_pass, first_passes, IsSamePass, AreNewPasses, AreAllPasses, HoldsPass}
use Rattle.turn_cell.specs.Turns.{Covers, own, taken_in, KeptIn, Setting, Back, joined}
use Rattle.turn_cell.proofs.Keeps.{Rule}

-- ---- the passes of a new cell

length_first : (R : Type 0) {T : Type 0} (c : CellFacts T) (n : ℕ) → length (first_passes {R = R} c n) ≡ n
length_first R c zero = refl
length_first R c (suc n) = let h : length (first_passes {R = R} c n) ≡ n = length_first R c n in let a = length-append (first_passes {R = R} c n) (first_pass c n ∷ []) in omega arith

index_left : {X : Type 0} (xs ys : List X) (k : ℕ) (d : X) → k < length xs → slice_index_or (xs ++ ys) k d ≡ slice_index_or xs k d
index_left [] ys k d h = absurd (omega arith)
index_left (x ∷ xs) ys zero d h = refl
index_left (x ∷ xs) ys (suc k) d h = index_left xs ys k d (omega arith)

index_last : {X : Type 0} (xs : List X) (x : X) (k : ℕ) (d : X) → k ≡ length xs → slice_index_or (xs ++ x ∷ []) k d ≡ x
index_last [] x zero d h = refl
index_last [] x (suc k) d h = absurd (omega arith)
index_last (y ∷ xs) x zero d h = absurd (omega arith)
index_last (y ∷ xs) x (suc k) d h = index_last xs x k d (omega arith)

first_at : {R T : Type 0} (c : CellFacts T) (n k : ℕ) (d : PassFacts R T) → k < n → slice_index_or (first_passes c n) k d ≡ first_pass c k
first_at c zero k d h = absurd (omega arith)
first_at {R} c (suc n) k d h = let len : length (first_passes {R = R} c n) ≡ n = length_first R c n in dite (ℕ_discrete k n)
    (λ e. index_last (first_passes c n) (first_pass c n) k d (e ∙ sym len) ∙ ap (λ (j : ℕ). first_pass c j) (sym e))
    (λ ne. index_left (first_passes c n) (first_pass c n ∷ []) k d (omega arith) ∙ first_at c n k d (omega arith))

pub new_passes : {R T : Type 0} (c : CellFacts T) (ps : List (PassFacts R T)) → ps ≡ first_passes c c.passes → AreNewPasses c ps
new_passes {R} {T} c ps e =
    let len : length (first_passes {R = R} c c.passes) ≡ c.passes = length_first R c c.passes in
    let all : AreNewPasses {R = R} c (first_passes c c.passes) = (len, λ k d h. first_at c c.passes k d (omega arith)) in
    subst (λ (l : List (PassFacts R T)). AreNewPasses c l) (sym e) all

-- ---- the passes at the end

pub set_length : {X : Type 0} (xs : List X) (k : ℕ) (x : X) → length (slice_set xs k x) ≡ length xs
set_length [] k x = refl
set_length (y ∷ xs) zero x = refl
set_length (y ∷ xs) (suc k) x = let e : length (slice_set xs k x) ≡ length xs = set_length xs k x in omega arith

index_set : {X : Type 0} (xs : List X) (k : ℕ) (x d : X) → k < length xs → slice_index_or (slice_set xs k x) k d ≡ x
index_set [] k x d h = absurd (omega arith)
index_set (y ∷ xs) zero x d h = refl
index_set (y ∷ xs) (suc k) x d h = index_set xs k x d (omega arith)

index_unset : {X : Type 0} (xs : List X) (k j : ℕ) (x d : X) → j ≢ k → slice_index_or (slice_set xs k x) j d ≡ slice_index_or xs j d
index_unset [] k j x d ne = refl
index_unset (y ∷ xs) zero zero x d ne = absurd (ne refl)
index_unset (y ∷ xs) zero (suc j) x d ne = refl
index_unset (y ∷ xs) (suc k) zero x d ne = refl
index_unset (y ∷ xs) (suc k) (suc j) x d ne = index_unset xs k j x d (λ e. ne (ap suc e))

index_any : {X : Type 0} (xs : List X) (k : ℕ) (d e : X) → k < length xs → slice_index_or xs k d ≡ slice_index_or xs k e
index_any [] k d e h = absurd (omega arith)
index_any (x ∷ xs) zero d e h = refl
index_any (x ∷ xs) (suc k) d e h = index_any xs k d e (omega arith)

-- new passes are all passes
pub all_new : {R T : Type 0} (c : CellFacts T) (ps : List (PassFacts R T)) → AreNewPasses c ps → AreAllPasses c ps
all_new {R} {T} c ps new = (
  λ k d h. ap (λ (p : PassFacts R T). p.cell) (new.1 k d h),
  λ n h. let low : n < length ps = let e = new.0 in omega arith in (n, first_pass c n, low, new.1 n (first_pass c n) low, refl),
)

-- all passes stay all passes whatever calls they make
pub all_same : {R T : Type 0} (c : CellFacts T) (ps qs : List (PassFacts R T)) → AreAllPasses c ps → length qs ≡ length ps
    → ((k : ℕ) (d : PassFacts R T) → k < length ps → IsSamePass (slice_index_or qs k d) (slice_index_or ps k d)) → AreAllPasses c qs
all_same {R} {T} c ps qs all len same = (
  λ k d h. let low : k < length ps = omega arith in (same k d low).1 ∙ all.0 k d low,
  λ n h.
      let a = all.1 n h in
      let q : PassFacts R T = slice_index_or qs a.0 a.1 in
      let low : a.0 < length qs = let l = a.2 in omega arith in
      (a.0, q, low, index_any qs a.0 q a.1 low, (same a.0 a.1 a.2).0 ∙ (ap (λ (p : PassFacts R T). p.number) a.3 ∙ a.4)),
)

same_self : {R T : Type 0} (p : PassFacts R T) → IsSamePass p p
same_self p = (refl, refl, refl, refl, refl)

-- all passes stay all passes where one of them made a call
pub all_after : {R T : Type 0} (c : CellFacts T) (ps : List (PassFacts R T)) (k : ℕ) (p q : PassFacts R T) → AreAllPasses c ps → k < length ps → q ≡ slice_index_or ps k q → IsSamePass p q → AreAllPasses c (slice_set ps k p)
all_after {R} {T} c ps k p q all low at same = all_same c ps (slice_set ps k p) all (set_length ps k p) (λ j d h. dite (ℕ_discrete j k)
    (λ e.
    let new : slice_index_or (slice_set ps k p) j d ≡ p = ap (λ (i : ℕ). slice_index_or (slice_set ps k p) i d) e ∙ index_set ps k p d low in
    let old : slice_index_or ps j d ≡ q = ap (λ (i : ℕ). slice_index_or ps i d) e ∙ (index_any ps k d q low ∙ sym at) in
    subst (λ (x : PassFacts R T). IsSamePass x (slice_index_or ps j d)) (sym new) (subst (λ (x : PassFacts R T). IsSamePass p x) (sym old) same))
    (λ ne. subst (λ (x : PassFacts R T). IsSamePass x (slice_index_or ps j d)) (sym (index_unset ps k j p d ne)) (same_self (slice_index_or ps j d))))

pub all_more : {X : Type 0} (P : X → Type 0) (x : X) (xs : List X) → P x → All P xs → All P (x ∷ xs)
all_more P x xs p ps zero d h = p
all_more P x xs p ps (suc k) d h = ps k d (omega arith)

pub all_front : {X : Type 0} (P : X → Type 0) (xs : List X) (x : X) → All P (xs ++ x ∷ []) → All P xs
all_front P xs x ps k d h = let a = length-append xs (x ∷ []) in subst P (index_left xs (x ∷ []) k d h) (ps k d (omega arith))

pub all_last : {X : Type 0} (P : X → Type 0) (xs : List X) (x : X) → All P (xs ++ x ∷ []) → P x
all_last P xs x ps = let a = length-append xs (x ∷ []) in subst P (index_last xs x (length xs) x refl) (ps (length xs) x (omega arith))

pub kept_more : {R T : Type 0} (v w : View R T) (p : PassFacts R T) → KeptIn v p → KeptIn (joined v w) p
kept_more v w p k = ⊎_elim (λ a. inl a) (λ a. inr (inr a)) k

pub kept_new : {R T : Type 0} (v w : View R T) (p : PassFacts R T) → (w.number ≡ p.number) × (w.seen ≡ p.seen) × (w.mine ≡ p.mine) → KeptIn (joined v w) p
kept_new {R} v w p e = inr (inl (ap (λ (n : ℕ). let m : Mark R = record { number = n; seen = w.seen; mine = w.mine } in m) e.0 ∙ (ap (λ (l : List R). let m : Mark R = record { number = p.number; seen = l; mine = w.mine } in m) e.1 ∙ ap (λ (l : List R). let m : Mark R = record { number = p.number; seen = p.seen; mine = l } in m) e.2)))

kept_covers : {R T : Type 0} (v : View R T) (p : PassFacts R T) → v.live ≡ true → KeptIn v p → Covers v p.number
kept_covers v p alive k = ⊎_elim (λ a. own alive a.0) (λ a. taken_in (record { number = p.number; seen = p.seen; mine = p.mine }) a refl) k

pub all_covered : {R T : Type 0} (v : View R T) (c : CellFacts T) (ps : List (PassFacts R T)) → v.live ≡ true → AreAllPasses c ps → All (KeptIn v) ps → (n : ℕ) → n < c.passes → Covers v n
all_covered {R} {T} v c ps alive all kept n h =
    let a = all.1 n h in
    subst (λ (k : ℕ). Covers v k) a.4 (kept_covers v a.1 alive (subst (λ (p : PassFacts R T). KeptIn v p) a.3 (kept a.0 a.1 a.2)))

module _ {O R T : Type 0} (history : O → List R) (owner : R → ℕ) (setting : O → Setting T) (legal : T → List R → Type 0) where
  -- the object at the end
  pub closes : (t : Setting T) (id : ℕ) (v : View R T) (ws : List ℕ) (xs : List O) (o : O) → Final (Seen (λ s. Rule history owner setting legal t s) id v) ws xs → get_elem? xs 0 ≡ some o → v.holding ≡ false → v.live ≡ true → ((n : ℕ) → n < t.passes → Covers v n)
      → Back history owner setting legal t v o
  closes t id v ws xs o final at idle alive all =
      let s : State O (View R T) = final.0 in
      let kept : Rule history owner setting legal t s = final.1.0 in
      let here = final.1.1 in
      let f = kept.fits id v here in
      dite (ℕ_discrete kept.turn 0)
      (λ z.
      let h = kept.home z in
      let there : get_elem? s.homes 0 ≡ some (some h.0) = rw h.1 refl in
      let same : h.0 ≡ o = some-injective h.0 o (sym (final.4 0 h.0 there) ∙ at) in
      subst (λ (y : O). Back history owner setting legal t v y) same record {
        seen = subst (λ (l : List R). StartsWith l v.seen) (sym h.2) f.seen;
        mine = ap (λ (l : List R). replies_of owner v.number l) h.2 ∙ f.mine alive;
        marks = λ m a. subst (λ (l : List R). StartsWith l m.seen × (replies_of owner m.number l ≡ m.mine)) (sym h.2) (f.marks m a);
        same = h.3;
        legal_all = subst (λ (l : List R). legal t.terms l) (sym h.2) kept.legal_log;
        within = subst (λ (l : List R). IsWithin owner t.passes t.quota l) (sym h.2) kept.within;
      })
      (λ n.
      let u = kept.held n in
      let fu = kept.fits kept.holder u.0 u.1 in
      let alive_u = (fu.holding u.2).3 in
      let same : kept.holder ≡ id = kept.apart kept.holder id u.0.number u.0 v u.1 here (own alive_u refl) (all u.0.number (fu.below alive_u)) in
      let is : u.0 ≡ v = some-injective u.0 v (sym u.1 ∙ (ap (λ (k : ℕ). get_elem? s.views k) same ∙ here)) in
      absurd (false≢true (sym idle ∙ (ap (λ (x : View R T). x.holding) (sym is) ∙ u.2))))

  pub back_pass : (t : Setting T) (v : View R T) (o : O) (p : PassFacts R T) → Back history owner setting legal t v o → KeptIn v p → HoldsPass owner (history o) p
  back_pass t v o p back kept = ⊎_elim
      (λ a. (subst (λ (l : List R). StartsWith (history o) l) a.1 back.seen, ap (λ (n : ℕ). replies_of owner n (history o)) (sym a.0) ∙ (back.mine ∙ a.2)))
      (λ a. back.marks (record { number = p.number; seen = p.seen; mine = p.mine }) a)
      kept
