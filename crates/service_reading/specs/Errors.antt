-- Inner: why there is nothing to serve with.
use Rattle.std.specs.Prelude.{◌≡◌, ℕ, List, Option, Err, IfSome}
use Rattle.outside.specs.Files.{Contents}
use Rattle.file_front.specs.declared.list.ListError.{ListError}
use Rattle.file_front.specs.declared.list.ListError.TheVariants as list_errors
use Rattle.info_hooks.specs.declared.key.Key.{Key}
use Rattle.setup_reading.specs.declared.reading.SetupFileError.{SetupFileError}
use Rattle.setup_reading.specs.declared.reading.SetupFileError.TheVariants as setup_errors
use Rattle.service_reading.specs.declared.error.ServiceError.{ServiceError}
use Rattle.service_reading.specs.declared.error.ServiceError.TheVariants as errors
use Rattle.service_reading.specs.Found.{service_in}

-- why a setup or its word list wasn't read: a read failed, memory ran out, or the files, if they report, say so
abbrev pub IsServiceError : List Key → Option Contents → List ℕ → Type 0 → ServiceError → Type 0
IsServiceError forms contents name ReadFailed errors.Failed = ReadFailed
IsServiceError forms contents name ReadFailed errors.OutOfMemory = Unit {0}
IsServiceError forms contents name ReadFailed error = IfSome contents (λ files. service_in forms files name ≡ Err error)

-- the errors that are handed on
abbrev pub error_of_setup : SetupFileError → ServiceError
error_of_setup setup_errors.Failed = errors.Failed
error_of_setup setup_errors.OutOfMemory = errors.OutOfMemory
error_of_setup setup_errors.Missing = errors.SetupMissing
error_of_setup (setup_errors.Refused fault) = errors.SetupRefused fault

abbrev pub error_of_list : ListError → ServiceError
error_of_list list_errors.Failed = errors.Failed
error_of_list list_errors.OutOfMemory = errors.OutOfMemory
error_of_list list_errors.Missing = errors.WordsMissing
error_of_list (list_errors.Refused fault) = errors.WordsRefused fault
