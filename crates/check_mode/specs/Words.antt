-- Believed: the command line of the mode `check`.
use Rattle.std.specs.Prelude.{ℕ, List, [], ◌∷◌, codes, Option, None}
use Rattle.std.specs.Bool.{then_some}
use Rattle.std.specs.Str.{bytes_eq}

-- the setup's file that the command line `check SETUP` names; any other names none
abbrev pub check_command : List (List ℕ) → Option (List ℕ)
check_command (mode ∷ setup ∷ []) = then_some (bytes_eq mode (codes "check")) setup
check_command _ = None
