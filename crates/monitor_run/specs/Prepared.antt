-- Inner: what a run is prepared with, before it listens.
use Rattle.std.specs.Prelude.{◌≡◌, ℕ, ◌≤◌, List, Option, Some}
use Rattle.monitor_book.specs.declared.opened.Held.{Held}
use Rattle.monitor_book.specs.declared.opened.Opened.{Opened}
use Rattle.monitor_book.specs.Lines.{IsUnwritten}
use Rattle.policy_model.specs.Settings.{quota_of}
use Rattle.session_turns.specs.Passes.{BookPass}
use Rattle.service_model.specs.Service.{Service}
use Rattle.turn_cell.specs.Facts.{AreNewPasses, CellFacts, IsCellOf}

-- what contracts see of a prepared run: what it will serve by, and what is fixed of its book
pub record Preparation : Type 0 where
  pub service : Service
  pub opened : Option Opened

-- the cell is over an empty book of the service's setup, its passes have
-- seen nothing, and there is a worker's memory for each
pub record IsPrepared (service : Service) (place : CellFacts (Option Opened)) (passes : List BookPass)
    (desks workers room : ℕ) : Type 0 where
  pub opened : Opened
  pub cell : IsCellOf place (Some opened) service.setup.workers (quota_of service.setup)
  pub setup_is : opened.setup ≡ service.setup
  pub new : AreNewPasses place passes
  pub desks_are : desks ≡ service.setup.workers
  pub none : workers ≡ 0
  pub rooms : service.setup.workers ≤ room

-- nothing was written to a log, where it tells what it holds, and it has no more faults than before
pub record LogStays (held_old held_new : Held) (faults_old faults_new : ℕ) : Type 0 where
  pub held : IsUnwritten held_old held_new
  pub faults : faults_new ≡ faults_old
