-- Believed: the command line of the mode `recover`.
use Rattle.std.specs.Prelude.{ℕ, List, [], ◌∷◌, codes, Option, None}
use Rattle.std.specs.Bool.{then_some}
use Rattle.std.specs.Str.{bytes_eq}

-- what `recover` is asked for: the files of the setup and of the log
pub record RecoverParts : Type 0 where
  pub setup : List ℕ
  pub log : List ℕ

-- the files that `recover` is given
abbrev pub names_of : RecoverParts → List (List ℕ)
names_of parts = parts.setup ∷ parts.log ∷ []

-- what the command line `recover SETUP LOG` asks for; any other asks for nothing
abbrev pub recover_command : List (List ℕ) → Option RecoverParts
recover_command (mode ∷ setup ∷ log ∷ []) =
    then_some (bytes_eq mode (codes "recover")) (record { setup = setup; log = log })
recover_command _ = None
