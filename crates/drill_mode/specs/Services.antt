-- Inner: what a drill serves by.
use Rattle.std.specs.Prelude.{◌≡◌, ℕ, List, []}
use Rattle.otp_words.specs.Dictionaries.{plain_words}
use Rattle.policy_model.specs.Settings.{Settings}
use Rattle.service_model.specs.Service.{Service}
use Rattle.drill_plan.specs.DrillSetup.{IsDrillSetup}

-- the service of a setup and of words, without any information
abbrev pub service_by : Settings → List (List ℕ) → Service
service_by setup words = record { setup = setup; words = words; forms = [] }

-- the service of the drill of n: its setup, the plain word list, and no information
pub record IsDrillService (n : ℕ) (service : Service) : Type 0 where
  pub setup : IsDrillSetup n service.setup
  pub words : service.words ≡ plain_words
  pub forms : service.forms ≡ []
