-- Believed: what a drill came to.
use Rattle.std.specs.Prelude.{◌≡◌, ℕ, false, List}
use Rattle.monitor_run.specs.Headline.{JournalIsLegal}
use Rattle.policy_model.specs.declared.event.Event.{Event}
use Rattle.policy_model.specs.Journal.{has_lost}
use Rattle.policy_model.specs.Settings.{Settings}
use Rattle.drill_plan.specs.Drill.{IsDrill}
use Rattle.drill_plan.specs.DrillSetup.{IsDrillSetup}

-- the journal of the drill of n: legal for the drill's setup, nothing lost, and by the drill's table
pub record IsDrilled (n : ℕ) (journal : List Event) : Type 0 where
  pub setup : Settings
  pub setup_is : IsDrillSetup n setup
  pub legal : JournalIsLegal setup journal
  pub kept : has_lost journal ≡ false
  pub drill : IsDrill n journal
