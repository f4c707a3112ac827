-- Inner: the rule of a cell between any two steps, and what each step tells.
use Rattle.std.specs.Prelude.{◌≡◌, ℕ, ◌+◌, ◌*◌, ◌^◌, ◌==◌, ◌<◌, ◌≤◌, ◌≢◌, ◌⊎◌, List, [], ◌∷◌, ◌++◌, length, true, false}
use Rattle.std.specs.Prelude.{MatchBool}
use Rattle.std.specs.Prelude.{Option as Maybe, Some, None}
use mathlib.Core.Option.{Option, none, some}
use lib.ListN.{get_elem?}
use Rattle.atomic_table.specs.Seated.{TableId}
use Rattle.atomic_table.specs.Table.{State, Me, rest}
use Rattle.turn_cell.specs.declared.view.View.{View}
use Rattle.turn_cell.specs.declared.view.Mark.{Mark}
use Rattle.turn_cell.specs.Facts.{StartsWith, EndsWith, PassFacts, replies_of, IsWithin}

-- what is fixed of an object
pub record Setting (T : Type 0) : Type 0 where
  pub terms : T
  pub passes : ℕ
  pub quota : ℕ

abbrev pub setting_of : {R T : Type 0} → View R T → Setting T
setting_of v = record { terms = v.terms; passes = v.passes; quota = v.quota }

abbrev pub setting_at : {O T : Type 0} → (O → T) → (O → ℕ) → (O → ℕ) → O → Setting (Maybe T)
setting_at terms passes quota y = record { terms = Some (terms y); passes = passes y; quota = quota y }

abbrev pub LegalAt : {R T : Type 0} → (T → List R → Type 0) → Maybe T → List R → Type 0
LegalAt legal None log = Unit {0}
LegalAt legal (Some t) log = legal t log

abbrev pub Among : {X : Type 0} → List X → X → Type 0
Among [] x = ⊥
Among (y ∷ ys) x = (y ≡ x) ⊎ Among ys x

-- the seat is of the table, which has two words and one slot
abbrev pub IsSeatAt : TableId → TableId → Type 0
IsSeatAt seat table = (seat ≡ table) × (table.words ≡ 2) × (table.slots ≡ 1)

-- the pass may take the turn: it has neither the turn nor the object
abbrev pub IsIdle : {O R T : Type 0} → Me O (View R T) → Type 0
IsIdle me = (me.0.holding ≡ false) × (me.1 ≡ []) × (me.0.live ≡ true)

-- a pass of one number, which may make calls
abbrev pub IsSingle : {R T : Type 0} → View R T → Type 0
IsSingle v = (v.live ≡ true) × (v.until ≤ v.from) × (v.folded ≡ [])

-- the pass has this number, can give it, or took in a pass that had it
pub data Covers {R T : Type 0} (v : View R T) (n : ℕ) : Type 0 where
  own : v.live ≡ true → v.number ≡ n → Covers v n
  spare : v.from ≤ n → n < v.until → Covers v n
  taken_in : (m : Mark R) → Among v.folded m → m.number ≡ n → Covers v n

-- what the pass knew is still known: by itself, or as what was taken in
abbrev pub KeptIn : {R T : Type 0} → View R T → PassFacts R T → Type 0
KeptIn v p = ((v.number ≡ p.number) × (v.seen ≡ p.seen) × (v.mine ≡ p.mine))
    ⊎ Among v.folded (record { number = p.number; seen = p.seen; mine = p.mine })

module _ {O R T : Type 0} (history : O → List R) (owner : R → ℕ) (setting : O → Setting T) (legal : T → List R
    → Type 0) where
  -- a pass has seen a beginning of the history, and knows its own replies; who has the turn has seen all
  pub record Fits (t : Setting T) (homes : List (Option O)) (log : List R) (holder : ℕ) (seat : ℕ) (v : View R T) : Type
      0 where
    pub seen : StartsWith log v.seen
    pub mine : v.live ≡ true → replies_of owner v.number log ≡ v.mine
    pub setting_same : v.live ≡ true → setting_of v ≡ t
    pub below : v.live ≡ true → v.number < t.passes
    pub holding : v.holding ≡ true → (homes ≡ none ∷ []) × (v.seen ≡ log) × (seat ≡ holder) × (v.live ≡ true)
    pub spares : (n : ℕ) → v.from ≤ n → n < v.until → (replies_of owner n log ≡ []) × (n < t.passes)
    pub marks : (m : Mark R) → Among v.folded m → StartsWith log m.seen × (replies_of owner m.number log ≡ m.mine)
    pub fresh : (n : ℕ) → v.from ≤ n → n < v.until → (v.number ≢ n) × ((m : Mark R) → Among v.folded m → m.number ≢ n)

  -- There is one history. The first word is 0 where the turn is free, and the second is the length of the history
  pub record Turns (t : Setting T) (s : State O (View R T)) : Type 0 where
    pub log : List R
    pub holder : ℕ
    pub turn : ℕ
    pub words : s.words ≡ turn ∷ length log ∷ []
    pub legal_log : legal t.terms log
    pub within : IsWithin owner t.passes t.quota log
    pub room : t.passes * t.quota < 2 ^ 64
    -- where the turn is free the object is at home, with the whole history
    pub home : turn ≡ 0 → (y : O) × (s.homes ≡ some y ∷ []) × (history y ≡ log) × (setting y ≡ t)
    -- where it is not, one pass has it
    pub held : turn ≢ 0 → (u : View R T) × (get_elem? s.views holder ≡ some u) × (u.holding ≡ true)
    pub fits : (seat : ℕ) (v : View R T) → get_elem? s.views seat ≡ some v → Fits t s.homes log holder seat v
    -- no two passes have one number
    pub apart : (i j n : ℕ) (v w : View R T) → get_elem? s.views i ≡ some v → get_elem? s.views j ≡ some w → Covers v n
        → Covers w n → i ≡ j

  -- the seat has the turn and the object, and has seen all of its history
  abbrev pub HasTurn : Me O (View R T) → Me O (View R T) → Type 0
  HasTurn me me' =
      (y : O) × (me'.1 ≡ (0, y) ∷ me.1) × (me'.0 ≡ record me.0 { seen = history y; holding = true })
      × StartsWith (history y) me.0.seen × (replies_of owner me.0.number (history y) ≡ me.0.mine)
      × legal me.0.terms (history y) × (setting y ≡ setting_of me.0) × (me.0.number < me.0.passes)

  -- the turn was taken if it was free
  abbrev pub Took : Me O (View R T) → ℕ → Me O (View R T) → Type 0
  Took me found me' = MatchBool (found == 0) (HasTurn me me') (me' ≡ me)

  -- the object has given one reply more, to this pass
  abbrev pub HasReply : Me O (View R T) → Type 0
  HasReply me =
      (y : O) × (r : R) × (me.1 ≡ (0, y) ∷ []) × ((me.0.holding ≡ true) × IsSingle me.0)
      × (history y ≡ me.0.seen ++ r ∷ []) × (owner r ≡ me.0.number) × (length me.0.mine < me.0.quota)
      × legal me.0.terms (history y) × (setting y ≡ setting_of me.0)

  -- the reply has joined the history
  abbrev pub Counted : Me O (View R T) → Me O (View R T) → Type 0
  Counted me me' =
      (y : O) → me.1 ≡ (0, y) ∷ []
      → me' ≡ (record me.0 { seen = history y; mine = replies_of owner me.0.number (history y) }, me.1)

  -- the object's replies have all joined the history
  abbrev pub IsCounted : Me O (View R T) → Type 0
  IsCounted me =
      (y : O) × (me.1 ≡ (0, y) ∷ []) × (me.0.holding ≡ true) × (me.0.live ≡ true) × (history y ≡ me.0.seen)
      × (setting y ≡ setting_of me.0)

  -- the turn was given back, with the object
  abbrev pub Gave : Me O (View R T) → Me O (View R T) → Type 0
  Gave me me' = me' ≡ (record me.0 { holding = false }, rest me.1)

  -- the pass made one call, and its reply is the last of what was seen
  abbrev pub MadeCall : Me O (View R T) → R → Me O (View R T) → Type 0
  MadeCall me r me' =
      (log : List R) × (me' ≡ (record me.0 { seen = log; mine = me.0.mine ++ r ∷ []; holding = false }, []))
      × StartsWith log me.0.seen × EndsWith log r × legal me.0.terms log
      × (replies_of owner me.0.number log ≡ me.0.mine ++ r ∷ [])

  -- once every pass was taken in, the object is at home, with what each has seen and made
  pub record Back (t : Setting T) (v : View R T) (o : O) : Type 0 where
    pub seen : StartsWith (history o) v.seen
    pub mine : replies_of owner v.number (history o) ≡ v.mine
    pub marks : (m : Mark R) → Among v.folded m → StartsWith (history o) m.seen
        × (replies_of owner m.number (history o) ≡ m.mine)
    pub same : setting o ≡ t
    pub legal_all : legal t.terms (history o)
    pub within : IsWithin owner t.passes t.quota (history o)

-- a pass of this number that can give all above it, and has seen nothing
abbrev pub pass_from : {R T : Type 0} → Setting T → ℕ → View R T
pass_from t n =
    record {
      number = n;
      terms = t.terms;
      passes = t.passes;
      quota = t.quota;
      seen = [];
      mine = [];
      holding = false;
      live = true;
      from = n + 1;
      until = t.passes;
      folded = [];
    }

abbrev pub newcomer : {R T : Type 0} → Setting T → View R T
newcomer t = pass_from t 0

-- a new pass has the next number and all that are left, and none is left here
abbrev pub kept_of : {R T : Type 0} → View R T → View R T
kept_of v = record v { until = v.from }

abbrev pub given_of : {R T : Type 0} → View R T → View R T
given_of v = record v { number = v.from; seen = []; mine = []; from = v.from + 1; folded = [] }

abbrev pub mark_of : {R T : Type 0} → View R T → Mark R
mark_of v = record { number = v.number; seen = v.seen; mine = v.mine }

abbrev pub joined : {R T : Type 0} → View R T → View R T → View R T
joined v w = record v { folded = mark_of w ∷ v.folded }

-- what a pass is that was taken in
abbrev pub spent : {R T : Type 0} → T → View R T
spent t = record {
  number = 0;
  terms = t;
  passes = 0;
  quota = 0;
  seen = [];
  mine = [];
  holding = false;
  live = false;
  from = 0;
  until = 0;
  folded = [];
}
