-- Inner: which files are kept before the words of a command line are done.
use Rattle.std.specs.Prelude.{◌≡◌, ℕ, List, [], ◌∷◌, Some}
use Rattle.std.specs.Option.{option_to_list}
use Rattle.kept_files.specs.Kept.{Kept}
use Rattle.kept_files.specs.Setups.{KeepsThese}
use Rattle.otp_mode.specs.Words.{OtpParts}
use Rattle.otp_extended.specs.Commands.{RenewParts}
use Rattle.renew_mode.specs.Outcome.{names_of}
use Rattle.serve_mode.specs.Words.{Source, files_of, setups_of}
use Rattle.monitor_server.specs.declared.command.AloneCommand.{AloneCommand}
use Rattle.monitor_server.specs.declared.command.AloneCommand.TheVariants as alone
use Rattle.monitor_server.specs.Commands.{asks_check, asks_otp, asks_renew, asks_serve}
use Rattle.monitor_server.specs.Touching.{files_given}

-- the files that are kept for a command without threads: those that it names, but none for `audit` and `recover`
abbrev pub files_before : AloneCommand → List (List ℕ)
files_before (alone.Audit command) = []
files_before (alone.Recover command) = []
files_before command = files_given command

-- each file is kept that these words name for `serve`, `otp`, `check` or `renew`, and the word list of a setup so named
pub record KeepsNamed (words : List (List ℕ)) (kept : Kept) : Type 0 where
  pub serve : (source : Source) → asks_serve words ≡ Some source → KeepsThese (files_of source) (setups_of source) kept
  pub otp : (parts : OtpParts) → asks_otp words ≡ Some parts → KeepsThese (option_to_list parts.list) [] kept
  pub check : (setup : List ℕ) → asks_check words ≡ Some setup → KeepsThese (setup ∷ []) (setup ∷ []) kept
  pub renew : (parts : RenewParts) → asks_renew words ≡ Some parts
      → KeepsThese (names_of parts) (parts.setup ∷ []) kept
