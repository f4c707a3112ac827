-- Inner: what the starts of a session's children do.
use Rattle.std.specs.Prelude.{◌≡◌, ℕ, ◌<◌, ◌≤◌, Option, Result, Ok, Err, IfSome}
use Rattle.outside.specs.declared.act.Act.TheVariants.{Start}
use Rattle.outside.specs.declared.act.Failed.{Failed}
use Rattle.outside.specs.declared.act.Role.{Role}
use Rattle.outside.specs.declared.faults.Faults.{Faults}
use Rattle.outside.specs.Faults.{AreCounts, count_after}
use Rattle.outside.specs.Link.{Link}
use Rattle.outside.specs.Scene.{Did, GivenBack, IsUnused, Scene, planned_bytes}
use Rattle.outside.specs.Told.{next_count}
use Rattle.child_keeper.specs.declared.fault.KeeperFault.{KeeperFault}

-- what the start of a child came to
abbrev pub start_outcome : {X : Type 0} → Result X KeeperFault → Result (Unit {0}) Failed
start_outcome (Ok _) = Ok tt
start_outcome (Err _) = Err (record {})

-- a child that was just started, by its role, by what its stream tells and counts, and by what its post
-- tells: it has this role, nothing passed yet, and it has to send what is planned for it
pub record IsNewChild (role : Role) (own : Role) (link : Option Link) (faults : ℕ) (scene : Option Scene) : Type 0 where
  pub right : own ≡ role
  pub unused : IfSome link IsUnused
  pub planned : IfSome scene (λ s. IfSome link (λ l. l.left ≡ planned_bytes s role))
  pub faultless : faults ≡ 0

-- the child before the login was given back, and then a start of the user's was tried; nothing else was done
pub record ChangesChild (pre : Role) (link : Option Link) (user : Role) (outcome : Result (Unit {0}) Failed)
    (before after : Option Scene) : Type 0 where
  pub between : Option Scene
  pub given_back : GivenBack pre link before between
  pub started : Did (Start user outcome) between after

-- the counts of both: a start that failed, and a child that was given back with so many faults of its link
pub record ChangeCounts (outcome : Result (Unit {0}) Failed) (link_faults : ℕ) (before after : Faults) : Type 0 where
  pub others : AreCounts before.accept (count_after outcome before.keeper) after.link before.conn before.vault after
  pub counted : 0 < link_faults → after.link ≡ next_count before.link
  pub least : before.link ≤ after.link
  pub most : after.link ≤ next_count before.link
