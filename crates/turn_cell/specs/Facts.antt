-- Inner: the words of the contracts: what they see of a pass and of a cell.
use Rattle.std.specs.Prelude.{◌≡◌, ℕ, zero, suc, ◌<◌, ◌≤◌, ◌==◌, List, [], ◌∷◌, ◌++◌, filter, length, slice_index_or}
use Rattle.std.specs.Prelude.{Option, Some}
use Rattle.std.specs.List.{All, Any}
use Rattle.atomic_table.specs.Seated.{TableId}
use Rattle.turn_cell.specs.declared.view.View.{View}

-- the log begins with what was seen
abbrev pub StartsWith : {R : Type 0} → List R → List R → Type 0
StartsWith {R} log seen = (rest : List R) × (log ≡ seen ++ rest)

-- the log ends with the reply
abbrev pub EndsWith : {R : Type 0} → List R → R → Type 0
EndsWith {R} log reply = (before : List R) × (log ≡ before ++ reply ∷ [])

-- the replies of one owner, in order
abbrev pub replies_of : {R : Type 0} → (R → ℕ) → ℕ → List R → List R
replies_of owner n log = filter (λ r. owner r == n) log

-- there are so many owners, from 0, and each has at most so many replies
abbrev pub IsWithin : {R : Type 0} → (R → ℕ) → ℕ → ℕ → List R → Type 0
IsWithin owner passes quota log =
    ((n : ℕ) → passes ≤ n → replies_of owner n log ≡ []) × ((n : ℕ) → length (replies_of owner n log) ≤ quota)

-- A pass: its number, which cell it is of, and what is fixed of the cell's object; then the beginning of the
-- history that it has seen, and its own replies in it. R is the type of a reply, and T that of the terms
pub record PassFacts (R T : Type 0) : Type 0 where
  pub number : ℕ
  pub cell : TableId
  pub terms : T
  pub passes : ℕ
  pub quota : ℕ
  pub seen : List R
  pub mine : List R

-- A cell: which one it is, and what is fixed of its object
pub record CellFacts (T : Type 0) : Type 0 where
  pub id : TableId
  pub terms : T
  pub passes : ℕ
  pub quota : ℕ

-- what contracts see of the cell of a table and of its object
abbrev pub cell_facts : {O T : Type 0} → (O → T) → (O → ℕ) → (O → ℕ) → TableId → O → CellFacts (Option T)
cell_facts terms passes quota id y = record { id = id; terms = Some (terms y); passes = passes y; quota = quota y }

-- what contracts see of a pass of the cell
abbrev pub pass_facts : {R T : Type 0} → TableId → View R T → PassFacts R T
pass_facts cell v =
    record {
      number = v.number;
      cell = cell;
      terms = v.terms;
      passes = v.passes;
      quota = v.quota;
      seen = v.seen;
      mine = v.mine;
    }

-- what no call changes of a pass
abbrev pub IsSamePass : {R T : Type 0} → PassFacts R T → PassFacts R T → Type 0
IsSamePass p q =
    (p.number ≡ q.number) × (p.cell ≡ q.cell) × (p.terms ≡ q.terms) × (p.passes ≡ q.passes) × (p.quota ≡ q.quota)

-- a pass of the cell that has seen nothing
abbrev pub first_pass : {R T : Type 0} → CellFacts T → ℕ → PassFacts R T
first_pass c n =
    record { number = n; cell = c.id; terms = c.terms; passes = c.passes; quota = c.quota; seen = []; mine = [] }

-- the passes of the first numbers
abbrev pub first_passes : {R T : Type 0} → CellFacts T → ℕ → List (PassFacts R T)
first_passes c zero = []
first_passes c (suc n) = first_passes c n ++ first_pass c n ∷ []

-- all passes of the cell, in the order of their numbers, none of which has seen anything
abbrev pub AreNewPasses : {R T : Type 0} → CellFacts T → List (PassFacts R T) → Type 0
AreNewPasses {R} {T} c ps =
    (length ps ≡ c.passes) × ((k : ℕ) (d : PassFacts R T) → k < length ps → slice_index_or ps k d ≡ first_pass c k)

-- all passes of the cell, in any order: each is of it, and each number has one
abbrev pub AreAllPasses : {R T : Type 0} → CellFacts T → List (PassFacts R T) → Type 0
AreAllPasses c ps = All (λ p. p.cell ≡ c.id) ps × ((n : ℕ) → n < c.passes → Any (λ p. p.number ≡ n) ps)

-- the history begins with what the pass has seen, and the pass's own replies are all that it has of this number
abbrev pub HoldsPass : {R T : Type 0} → (R → ℕ) → List R → PassFacts R T → Type 0
HoldsPass owner log p = StartsWith log p.seen × (replies_of owner p.number log ≡ p.mine)

-- what is fixed of the object of a cell
abbrev pub IsCellOf : {T : Type 0} → CellFacts T → T → ℕ → ℕ → Type 0
IsCellOf c terms passes quota = (c.terms ≡ terms) × (c.passes ≡ passes) × (c.quota ≡ quota)
