-- Believed: the exit status of each trouble.
use Rattle.std.specs.Prelude.{ℕ, Result, Ok, Err}
use Rattle.trouble.specs.declared.trouble.ServeFault.TheVariants as serving
use Rattle.trouble.specs.declared.trouble.Trouble.{Trouble}
use Rattle.trouble.specs.declared.trouble.Trouble.TheVariants as troubles

-- the exit status of a mode that ends by a trouble
abbrev pub trouble_status : Trouble → ℕ
trouble_status troubles.ReadFailed = 3
trouble_status (troubles.Missing file) = 4
trouble_status (troubles.SetupRefused fault) = 5
trouble_status (troubles.WordsRefused fault) = 5
trouble_status (troubles.Serving serving.ListenFailed) = 6
trouble_status (troubles.Serving serving.LogLost) = 7
trouble_status troubles.ReplaceFailed = 8
trouble_status troubles.OutOfMemory = 9
trouble_status (troubles.Serving serving.AcceptFailed) = 10
trouble_status troubles.EndsFailed = 11
trouble_status troubles.PhraseRefused = 12
trouble_status (troubles.ResponseRefused fault) = 12
trouble_status (troubles.LogRefused fault) = 13
trouble_status (troubles.NoRenewal fault) = 15

-- the exit status of a mode that came to this: 0 for success
abbrev pub status_of : {A : Type 0} → Result A Trouble → ℕ
status_of (Ok _) = 0
status_of (Err trouble) = trouble_status trouble
