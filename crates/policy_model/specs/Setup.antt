-- Inner: what contracts see of a setup: its settings, which are in their ranges.
use Rattle.policy_model.specs.declared.setup.Setup.TheInside.{Inside}
use Rattle.policy_model.specs.Settings.{Settings, IsInRange}

abbrev pub settings_of : Inside → Settings
settings_of s = s.parts

abbrev pub IsSetup : Inside → Type 0
IsSetup s = IsInRange (settings_of s)
