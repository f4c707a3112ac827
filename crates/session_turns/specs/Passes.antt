-- Inner: what a worker's pass of the cell over a book is, and what a call of the cell tells of it.
use Rattle.std.specs.Prelude.{◌≡◌, ◌<◌, ◌-◌, true, List, [], ◌∷◌, ◌++◌, Option, Some, length}
use denote.Param.Members.{Shared}
use denote.Ref.{MutBor}
use Rattle.monitor_book.specs.declared.opened.Opened.{Opened}
use Rattle.monitor_book.specs.Kept.{BookParts, worker_of}
use Rattle.policy_model.specs.declared.event.Ask.{Ask}
use Rattle.policy_model.specs.declared.event.Event.{Event}
use Rattle.policy_model.specs.Asks.{is_proper}
use Rattle.policy_model.specs.Runs.{IsRun}
use Rattle.policy_model.specs.Settings.{Settings}
use Rattle.session_core.specs.Parts.{setup_of}
use Rattle.service_model.specs.Places.{worker_places}
use Rattle.turn_cell.specs.Facts.{CellFacts, EndsWith, IsSamePass, PassFacts, StartsWith, replies_of}
use Rattle.turn_cell.specs.Turns.{LegalAt}
use Rattle.session_turns.specs.Joins.{Rights, Seat}

-- what contracts see of a pass of the cell over a book
abbrev pub BookPass : Type 0
BookPass = PassFacts Event (Option Opened)

-- the number of a pass, and how many calls are left of its quota
abbrev pub rights_of : BookPass → Rights
rights_of pass = record { worker = pass.number; left = pass.quota - length pass.mine }

-- the seat of a pass's worker
abbrev pub seat_of : Settings → BookPass → Seat
seat_of setup pass = record { setup = setup; rights = rights_of pass; seen = pass.seen }

-- what is fixed of a book is of this setup
abbrev pub OpenedBy : Settings → Option Opened → Type 0
OpenedBy setup terms = (opened : Opened) × (terms ≡ Some opened) × (opened.setup ≡ setup)

-- the pass is of this cell, which is over a book of this setup; its number is a worker's, its own
-- events are all that what it has seen holds of that worker, and what it has seen is a run
pub record IsPassAt (setup : Settings) (place : CellFacts (Option Opened)) (pass : BookPass) : Type 0 where
  pub here : pass.cell ≡ place.id
  pub same : pass.terms ≡ place.terms
  pub opened : OpenedBy setup place.terms
  pub below : pass.number < setup.workers
  pub own : replies_of worker_of pass.number pass.seen ≡ pass.mine
  pub run : IsRun setup pass.seen

-- every history that a book may have is a run
abbrev pub RunsBy : Opened → List Event → Type 0
RunsBy opened journal = IsRun opened.setup journal

-- a call may be made with a pass
pub record MayCall (place : CellFacts (Option Opened)) (pass : BookPass) (ask : Ask) : Type 0 where
  pub here : pass.cell ≡ place.id
  pub room : length pass.mine < pass.quota
  pub proper : is_proper ask ≡ true

-- what the cell tells of a call
pub record IsCalled (old new : BookPass) (ask : Ask) (e : Event) : Type 0 where
  pub same : IsSamePass new old
  pub seen : StartsWith new.seen old.seen
  pub legal : LegalAt RunsBy new.terms new.seen
  pub ends : EndsWith new.seen e
  pub mine : new.mine ≡ old.mine ++ e ∷ []
  pub owned : replies_of worker_of new.number new.seen ≡ new.mine
  pub reply : (worker_of e ≡ old.number) × (e.ask ≡ ask)

-- a closure that makes the calls of a cell
pub record IsCaller {F P : Type 0} (g : Shared F (MutBor P × (Ask × Unit {0})) (Event × (MutBor P × Unit {0})))
    (facts : P → BookPass) (place : CellFacts (Option Opened)) (f : F) : Type 0 where
  pub can : (p : MutBor P) (ask : Ask) → MayCall place (facts p.now) ask → g.pre f (p, (ask, tt))
  pub gives : (p q : MutBor P) (ask : Ask) (e : Event) → MayCall place (facts p.now) ask
      → g.post f (p, (ask, tt)) (e, (q, tt)) → IsCalled (facts p.now) (facts q.now) ask e

-- what is fixed of a book
abbrev pub opened_of : BookParts → Opened
opened_of book = record { setup = setup_of book.core; held = book.held_first; faults = book.faults_first }

-- a pass's own events are all that what it has seen holds of its number
abbrev pub OwnsAll : BookPass → Type 0
OwnsAll pass = replies_of worker_of pass.number pass.seen ≡ pass.mine

-- the journal begins with what a pass has seen, and holds no more of its worker
abbrev pub IsHeldBy : List Event → BookPass → Type 0
IsHeldBy journal pass =
    StartsWith journal pass.seen × (worker_places journal pass.number ≡ worker_places pass.seen pass.number)
