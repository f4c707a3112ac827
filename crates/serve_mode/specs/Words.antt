-- Believed: the command line of the mode `serve`.
use Rattle.std.specs.Prelude.{ℕ, List, [], ◌∷◌, codes, Option, Some, None}
use Rattle.std.specs.Bool.{then_some}
use Rattle.std.specs.Option.{option_to_list}
use Rattle.std.specs.Str.{bytes_eq}

-- where a run's setup comes from: it is the plain one, or a named file's, perhaps with a durable log's file
pub data Source : Type 0 where
  Plain : Source
  Named : (name : List ℕ) → (log : Option (List ℕ)) → Source

-- the files that a run is given: the setup's, and perhaps a durable log's
abbrev pub files_of : Source → List (List ℕ)
files_of Plain = []
files_of (Named name log) = name ∷ option_to_list log

-- the files of them that are to hold a setup
abbrev pub setups_of : Source → List (List ℕ)
setups_of Plain = []
setups_of (Named name log) = name ∷ []

-- what the command line `serve`, `serve SETUP` or `serve SETUP LOG` asks for; any other asks for nothing
abbrev pub serve_command : List (List ℕ) → Option Source
serve_command (mode ∷ []) = then_some (bytes_eq mode (codes "serve")) Plain
serve_command (mode ∷ name ∷ []) = then_some (bytes_eq mode (codes "serve")) (Named name None)
serve_command (mode ∷ name ∷ log ∷ []) = then_some (bytes_eq mode (codes "serve")) (Named name (Some log))
serve_command _ = None
