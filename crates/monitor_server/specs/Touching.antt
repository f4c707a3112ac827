-- Believed: which files a command line names, and which of them its mode may replace.
use Rattle.std.specs.Prelude.{ℕ, List, [], ◌∷◌, ◌++◌, Option, Some, None}
use Rattle.std.specs.Option.{option_to_list}
use Rattle.outside.specs.Files.{Contents}
use Rattle.setup_reading.specs.Touching.{TouchesNamed}
use Rattle.otp_mode.specs.Command.{command_parts}
use Rattle.audit_mode.specs.Commands as audits_command
use Rattle.audit_mode.specs.Words as audits
use Rattle.otp_extended.specs.Commands as renewals
use Rattle.renew_mode.specs.Outcome as renews
use Rattle.recover_mode.specs.Commands as recoveries_command
use Rattle.recover_mode.specs.Words as recoveries
use Rattle.serve_mode.specs.Words.{files_of, setups_of}
use Rattle.monitor_server.specs.declared.command.AloneCommand.{AloneCommand}
use Rattle.monitor_server.specs.declared.command.AloneCommand.TheVariants as alone
use Rattle.monitor_server.specs.Around.{Around, SidesNow, files_with}
use Rattle.monitor_server.specs.Commands.{asks_audit, asks_check, asks_otp, asks_recover, asks_renew, asks_serve}

-- ---- all words

-- the names in what a command line asks for, if it asks for it
abbrev pub names_in : {A : Type 0} → (A → List (List ℕ)) → Option A → List (List ℕ)
names_in names None = []
names_in names (Some asked) = names asked

-- the files that a command line names
abbrev pub files_named : List (List ℕ) → List (List ℕ)
files_named words =
    names_in files_of (asks_serve words) ++ names_in (λ parts. option_to_list parts.list) (asks_otp words)
    ++ names_in (λ setup. setup ∷ []) (asks_check words) ++ names_in audits.names_of (asks_audit words)
    ++ names_in renews.names_of (asks_renew words) ++ names_in recoveries.names_of (asks_recover words)

-- the files of them that are to hold a setup whose word list is read
abbrev pub setups_named : List (List ℕ) → List (List ℕ)
setups_named words =
    names_in setups_of (asks_serve words) ++ names_in (λ setup. setup ∷ []) (asks_check words)
    ++ names_in (λ parts. parts.setup ∷ []) (asks_renew words)

-- the files of them that its mode may replace: of `serve` and `renew` the setup's, of `recover` the log's too
abbrev pub files_replaced : List (List ℕ) → List (List ℕ)
files_replaced words =
    names_in setups_of (asks_serve words) ++ names_in (λ parts. parts.setup ∷ []) (asks_renew words)
    ++ names_in recoveries.names_of (asks_recover words)

-- no file was read but those that the command line names and the word list of a setup so named; none was replaced that
-- its mode may not replace
abbrev pub TouchesFilesNamed : {F S K E : Type 0} → List (List ℕ) → (F → Option Contents) → Around F S K E
    → Around F S K E → Type 0
TouchesFilesNamed words contents before after =
    TouchesNamed (files_named words) (setups_named words) (files_replaced words) (files_with contents before.files)
    (files_with contents after.files)

-- ---- one command that is done without threads

-- the files that it names
abbrev pub files_given : AloneCommand → List (List ℕ)
files_given (alone.Password command) = option_to_list (command_parts command).list
files_given (alone.Check setup) = setup.now ∷ []
files_given (alone.Child command) = []
files_given (alone.Audit command) = audits.names_of (audits_command.command_parts command)
files_given (alone.Renew command) = renews.names_of (renewals.command_parts command)
files_given (alone.Recover command) = recoveries.names_of (recoveries_command.command_parts command)
files_given (alone.Enrol command) = []

-- the files of them that are to hold a setup whose word list is read
abbrev pub setups_given : AloneCommand → List (List ℕ)
setups_given (alone.Check setup) = setup.now ∷ []
setups_given (alone.Renew command) = command.setup.now ∷ []
setups_given _ = []

-- the files of them that it may replace
abbrev pub files_written : AloneCommand → List (List ℕ)
files_written (alone.Renew command) = command.setup.now ∷ []
files_written (alone.Recover command) = recoveries.names_of (recoveries_command.command_parts command)
files_written _ = []

-- no file was read but those that the command names and the word list of a setup so named; none was replaced that it
-- may not replace
abbrev pub TouchesGiven : {F E : Type 0} → AloneCommand → (F → Option Contents) → SidesNow F E → SidesNow F E → Type 0
TouchesGiven command contents before after =
    TouchesNamed (files_given command) (setups_given command) (files_written command) (files_with contents before.files)
    (files_with contents after.files)
