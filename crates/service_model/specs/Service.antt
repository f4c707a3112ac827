-- Believed: what is the same throughout a run.
use Rattle.std.specs.Prelude.{ℕ, List}
use Rattle.info_hooks.specs.declared.key.Key.{Key}
use Rattle.policy_model.specs.Settings.{Settings}

-- what is the same throughout a run: the setup, the word list and the forms of the information texts
pub record Service : Type 0 where
  pub setup : Settings
  pub words : List (List ℕ)
  pub forms : List Key
