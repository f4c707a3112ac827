-- Inner: steps from the beginning of a run.
use Rattle.std.specs.Prelude.{ℕ, ◌<◌}
use Rattle.policy_model.specs.declared.event.Ask.{Ask}
use Rattle.policy_model.specs.declared.event.Event.{Event}
use Rattle.policy_model.specs.declared.event.Step.{Step}
use Rattle.policy_model.specs.Settings.{Settings}

-- a step of one of the setup's workers
pub record IsStepOf (setup : Settings) (step : Step) : Type 0 where
  pub worker : step.worker < setup.workers

-- the worker and the ask of an event, and of a step
abbrev pub asked_of : Event → ℕ × Ask
asked_of e = (e.worker, e.ask)

abbrev pub stepped_of : Step → ℕ × Ask
stepped_of step = (step.worker, step.ask)
