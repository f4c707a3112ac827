-- Inner: one worker of a run, before and after it served.
use Rattle.std.specs.Prelude.{◌≡◌, ◌<◌, ◌≤◌, [], Option, IfSome}
use Rattle.monitor_book.specs.declared.opened.Opened.{Opened}
use Rattle.outside.specs.declared.faults.Faults.{Faults}
use Rattle.outside.specs.Faults.{AreCounts}
use Rattle.outside.specs.Scene.{IsUnplayed, Scene}
use Rattle.policy_model.specs.Settings.{Settings, quota_of}
use Rattle.service_model.specs.Service.{Service}
use Rattle.session_loop.specs.Stories.{HasStory}
use Rattle.session_loop.specs.declared.worker.WorkerEnd.{WorkerEnd}
use Rattle.session_loop.specs.declared.worker.WorkerEnd.TheVariants as ends
use Rattle.session_turns.specs.Passes.{BookPass, IsPassAt, rights_of}
use Rattle.turn_cell.specs.Facts.{CellFacts}

-- a worker may begin: its pass is of the cell and has seen nothing, and nothing was asked of its post
pub record IsReady (setup : Settings) (place : CellFacts (Option Opened)) (pass : BookPass) (scene : Option Scene)
    (faults : Faults) : Type 0 where
  pub at : IsPassAt setup place pass
  pub unseen : pass.seen ≡ []
  pub left : quota_of setup ≤ (rights_of pass).left
  pub unplayed : IfSome scene IsUnplayed
  pub faultless : AreCounts 0 0 0 0 0 faults

-- a worker has served: all that it did, from the beginning, is its sessions
pub record HasServed (service : Service) (place : CellFacts (Option Opened)) (old new : BookPass) (end : WorkerEnd)
    (before after : Option Scene) (faults_old faults_new : Faults) : Type 0 where
  pub at : IsPassAt service.setup place new
  pub number_is : new.number ≡ old.number
  pub story : HasStory service old.number end old.seen new.seen before after faults_old faults_new
  pub failed : end ≡ ends.AcceptFault → 0 < faults_new.accept
