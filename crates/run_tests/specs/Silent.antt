-- Inner: what a post says that tells nothing and has no faults.
use Rattle.std.specs.Prelude.{Option, None}
use Rattle.outside.specs.declared.faults.Faults.{Faults}
use Rattle.outside.specs.Scene.{Scene}

-- nothing is told
abbrev pub silent_scene : {P : Type 0} → P → Option Scene
silent_scene _ = None

-- no fault was had
abbrev pub no_faults : {P : Type 0} → P → Faults
no_faults _ = record { accept = 0; keeper = 0; link = 0; conn = 0; vault = 0 }
