-- Believed: what the mode `check` finds of a setup, by what stands in the files.
use Rattle.std.specs.Prelude.{ℕ, Bool, true, false, List, length, Result, Ok, Err}
use Rattle.std.specs.Result.{result_map_both}
use Rattle.outside.specs.Files.{Contents}
use Rattle.info_hooks.specs.declared.key.Key.{Key}
use Rattle.service_reading.specs.Found.{FoundService}
use Rattle.trouble.specs.declared.trouble.Trouble.{Trouble}
use Rattle.trouble.specs.declared.trouble.Trouble.TheVariants as troubles
use Rattle.trouble.specs.Reading.{service_in, setup_and_words}
use Rattle.check_mode.specs.declared.finding.Finding.{Finding}

-- what is found of a setup and its word list that are right
abbrev pub finding_of : FoundService → Finding
finding_of found = record {
  accounts = length found.entries.accounts;
  workers = found.entries.counts.workers;
  requests = found.entries.counts.requests;
}

-- what is found of the setup in the named file, or the first thing that is wrong with it and its word list
abbrev pub found_in : List Key → Contents → List ℕ → Result Finding Trouble
found_in forms files name = result_map_both finding_of (λ trouble. trouble) (service_in forms files name)

-- whether a line tells what was found: that all is right, or that a file is missing or refused
abbrev pub is_told : Result Finding Trouble → Bool
is_told (Ok finding) = true
is_told (Err (troubles.Missing file)) = setup_and_words file
is_told (Err (troubles.SetupRefused fault)) = true
is_told (Err (troubles.WordsRefused fault)) = true
is_told (Err _) = false
