-- Inner: what a run has to tell of a drill's worker.
use Rattle.std.specs.Prelude.{◌≡◌, ℕ, ◌==◌, ◌&&◌, List, count_by}
use Rattle.policy_model.specs.declared.event.Event.{Event}
use Rattle.policy_model.specs.Asks.{opens}
use Rattle.service_model.specs.Service.{Service}
use Rattle.service_model.specs.Sittings.{AreSittingsOf, Sitting}
use Rattle.service_model.specs.Stories.{ArePlanned}
use Rattle.drill_plan.specs.Passwords.{session_count}
use Rattle.drill_plan.specs.Plan.{drill_plan}

-- the worker's sessions were served over children that said what the plan of the
-- drill of n has for them, and as many were opened as the setup says
pub record IsPlayed (n : ℕ) (service : Service) (journal : List Event) (worker : ℕ) : Type 0 where
  pub sittings : List Sitting
  pub served : AreSittingsOf service journal worker sittings
  pub planned : ArePlanned (drill_plan n worker) 0 sittings
  pub opened : count_by (λ e. e.worker == worker && opens e) journal ≡ session_count n
