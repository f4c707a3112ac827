-- Believed: the command line of the mode `audit`.
use Rattle.std.specs.Prelude.{ℕ, List, [], ◌∷◌, codes, Option, None}
use Rattle.std.specs.Bool.{then_some}
use Rattle.std.specs.Str.{bytes_eq}

-- what `audit` is asked for: the files of the setup and of the log
pub record AuditParts : Type 0 where
  pub setup : List ℕ
  pub log : List ℕ

-- the files that `audit` is given
abbrev pub names_of : AuditParts → List (List ℕ)
names_of parts = parts.setup ∷ parts.log ∷ []

-- what the command line `audit SETUP LOG` asks for; any other asks for nothing
abbrev pub audit_command : List (List ℕ) → Option AuditParts
audit_command (mode ∷ setup ∷ log ∷ []) =
    then_some (bytes_eq mode (codes "audit")) (record { setup = setup; log = log })
audit_command _ = None
