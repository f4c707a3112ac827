-- Believed: the command line and the line of the mode `renew`.
use Rattle.std.specs.Prelude.{ℕ, List, [], ◌∷◌, ◌++◌, codes, Option, Some, None, option_map, if◌then◌else◌}
use Rattle.std.specs.Fmt.{decimal}
use Rattle.std.specs.Str.{bytes_eq}
use Rattle.request_catalogue.specs.TextBytes.{name_bytes}
use Rattle.request_catalogue.specs.Texts.{is_name}
use Rattle.otp_extended.specs.declared.command.RenewCommand.{RenewCommand}

-- what `renew` is asked for: the setup's file, the user, and perhaps the durable log's file
pub record RenewParts : Type 0 where
  pub setup : List ℕ
  pub user : List ℕ
  pub log : Option (List ℕ)

-- what these names ask for; nothing if the user's is no name
abbrev pub command_of : List ℕ → List ℕ → Option (List ℕ) → Option RenewParts
command_of setup user log = if is_name user then Some (record { setup = setup; user = user; log = log }) else None

-- what the command line `renew SETUP NAME` or `renew SETUP NAME LOG` asks for; any other asks for nothing
abbrev pub renew_command : List (List ℕ) → Option RenewParts
renew_command (mode ∷ setup ∷ user ∷ []) = if bytes_eq mode (codes "renew") then command_of setup user None else None
renew_command (mode ∷ setup ∷ user ∷ log ∷ []) =
    if bytes_eq mode (codes "renew") then command_of setup user (Some log) else None
renew_command _ = None

-- the parts of a command that was read
abbrev pub command_parts : RenewCommand → RenewParts
command_parts c = record { setup = c.setup.now; user = name_bytes c.user; log = option_map (λ word. word.now) c.log }

-- the line that says that a user's chain was renewed, with its new sequence
abbrev pub renewed_line : List ℕ → ℕ → List ℕ
renewed_line user sequence = codes "renewed " ++ (user ++ (codes " " ++ (decimal sequence ++ codes "\n")))
