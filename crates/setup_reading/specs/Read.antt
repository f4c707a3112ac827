-- Believed: the setup in a file, or why there is none.
use Rattle.std.specs.Prelude.{◌≡◌, ℕ, nat_le, List, length, Option, Some, None, option_map, Result, Ok, Err, IfSome}
use Rattle.std.specs.Bool.{then_some}
use Rattle.request_catalogue.specs.Results.{◌>>=◌}
use Rattle.outside.specs.Files.{Contents}
use Rattle.policy_model.specs.Settings.{Settings}
use Rattle.file_front.specs.declared.front.FrontError.{FrontError}
use Rattle.file_front.specs.declared.front.FrontError.TheVariants as front_errors
use Rattle.account_file.specs.declared.fault.SetupError.{SetupError}
use Rattle.account_file.specs.declared.fault.SetupError.TheVariants as setup_errors
use Rattle.account_file.specs.declared.fault.SetupFault.{SetupFault}
use Rattle.account_file.specs.declared.fault.SetupKey.TheVariants as keys
use Rattle.account_file.specs.declared.fault.SetupRule.TheVariants as rules
use Rattle.account_file.specs.Entries.{SetupEntries, entries_of}
use Rattle.account_file.specs.Faults.{demand_at}
use Rattle.account_file.specs.Setups.{setup_of}
use Rattle.setup_reading.specs.declared.reading.SetupFileError.{SetupFileError}
use Rattle.setup_reading.specs.declared.reading.SetupFileError.TheVariants as errors

-- the setup that a file's bytes spell, or the first fault; a file has at most 8,388,608 bytes
unfoldable pub judged_setup : List ℕ → Result SetupEntries SetupFault
judged_setup bytes = demand_at 0 keys.File rules.TooLong (then_some (nat_le (length bytes) 8388608) bytes) >>= setup_of

-- what the named file says of a setup, if there is such a file
abbrev pub setup_in : Contents → List ℕ → Option (Result SetupEntries SetupFault)
setup_in files name = option_map judged_setup (files name)

-- the named file spells this setup, if the files report
abbrev pub IsSetupIn : Option Contents → List ℕ → Settings → Type 0
IsSetupIn contents name setup = IfSome contents (λ files. setup_in files name ≡ Some (Ok (entries_of setup)))

-- why no setup was read from the named file: a read failed, memory ran out, or it is missing or refused
abbrev pub IsSetupError : Option Contents → List ℕ → Type 0 → SetupFileError → Type 0
IsSetupError contents name ReadFailed errors.Failed = ReadFailed
IsSetupError contents name ReadFailed errors.OutOfMemory = Unit {0}
IsSetupError contents name ReadFailed errors.Missing = IfSome contents (λ files. setup_in files name ≡ None)
IsSetupError contents name ReadFailed (errors.Refused fault) =
    IfSome contents (λ files. setup_in files name ≡ Some (Err fault))

-- the errors that are handed on
abbrev pub error_of_front : FrontError → SetupFileError
error_of_front front_errors.Failed = errors.Failed
error_of_front front_errors.OutOfMemory = errors.OutOfMemory

abbrev pub error_of_setup : SetupError → SetupFileError
error_of_setup (setup_errors.Refused fault) = errors.Refused fault
error_of_setup setup_errors.OutOfMemory = errors.OutOfMemory
