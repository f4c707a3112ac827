-- Believed: what goes wrong where files are read, and why.
use Rattle.std.specs.Prelude.{◌≡◌, ℕ, Bool, IsTrue, true, false, List, Option, Result, Err, IfSome}
use Rattle.std.specs.Result.{result_map_both}
use Rattle.request_catalogue.specs.Results.{demand, ◌>>=◌}
use Rattle.outside.specs.Files.{Contents}
use Rattle.otp_words.specs.Lists.{dictionary_of}
use Rattle.info_hooks.specs.declared.key.Key.{Key}
use Rattle.file_front.specs.declared.front.FrontError.{FrontError}
use Rattle.file_front.specs.declared.front.FrontError.TheVariants as front_errors
use Rattle.file_front.specs.declared.list.ListError.{ListError}
use Rattle.file_front.specs.declared.list.ListError.TheVariants as list_errors
use Rattle.file_front.specs.Lists.{list_text}
use Rattle.account_file.specs.Entries.{SetupEntries}
use Rattle.ledger_journal.specs.declared.answer.RecoverError.{RecoverError}
use Rattle.ledger_journal.specs.declared.answer.RecoverError.TheVariants as log_errors
use Rattle.setup_reading.specs.declared.reading.SetupFileError.{SetupFileError}
use Rattle.setup_reading.specs.declared.reading.SetupFileError.TheVariants as setup_errors
use Rattle.setup_reading.specs.Read as setups
use Rattle.service_reading.specs.declared.error.ServiceError.{ServiceError}
use Rattle.service_reading.specs.declared.error.ServiceError.TheVariants as service_errors
use Rattle.service_reading.specs.Found as services
use Rattle.service_reading.specs.Found.{FoundService}
use Rattle.trouble.specs.declared.trouble.FileKind.{FileKind}
use Rattle.trouble.specs.declared.trouble.FileKind.TheVariants as kinds
use Rattle.trouble.specs.declared.trouble.LogFault.TheVariants as log_faults
use Rattle.trouble.specs.declared.trouble.Trouble.{Trouble}
use Rattle.trouble.specs.declared.trouble.Trouble.TheVariants as troubles

-- the trouble with a file, with a word list, with a setup, and with the last two
abbrev pub trouble_of_front : FrontError → Trouble
trouble_of_front front_errors.Failed = troubles.ReadFailed
trouble_of_front front_errors.OutOfMemory = troubles.OutOfMemory

abbrev pub trouble_of_list : ListError → Trouble
trouble_of_list list_errors.Failed = troubles.ReadFailed
trouble_of_list list_errors.OutOfMemory = troubles.OutOfMemory
trouble_of_list list_errors.Missing = troubles.Missing kinds.Words
trouble_of_list (list_errors.Refused fault) = troubles.WordsRefused fault

abbrev pub trouble_of_setup : SetupFileError → Trouble
trouble_of_setup setup_errors.Failed = troubles.ReadFailed
trouble_of_setup setup_errors.OutOfMemory = troubles.OutOfMemory
trouble_of_setup setup_errors.Missing = troubles.Missing kinds.Setup
trouble_of_setup (setup_errors.Refused fault) = troubles.SetupRefused fault

-- the trouble with a setup and its word list
abbrev pub trouble_of_service : ServiceError → Trouble
trouble_of_service service_errors.Failed = troubles.ReadFailed
trouble_of_service service_errors.OutOfMemory = troubles.OutOfMemory
trouble_of_service service_errors.SetupMissing = troubles.Missing kinds.Setup
trouble_of_service (service_errors.SetupRefused fault) = troubles.SetupRefused fault
trouble_of_service service_errors.WordsMissing = troubles.Missing kinds.Words
trouble_of_service (service_errors.WordsRefused fault) = troubles.WordsRefused fault

-- the trouble with a log that isn't recovered, by the number of its first record with a fault; 0: it is no log
abbrev pub trouble_of_log : RecoverError → Trouble
trouble_of_log log_errors.NoLog = troubles.LogRefused (log_faults.Record 0)
trouble_of_log (log_errors.Line number) = troubles.LogRefused (log_faults.Record number)
trouble_of_log log_errors.OutOfMemory = troubles.OutOfMemory

-- the words of the list in the named file, or what is wrong with it
abbrev pub list_in : Contents → List ℕ → Result (List (List ℕ)) Trouble
list_in files name = do
  text ← demand (troubles.Missing kinds.Words) (list_text (files name))
  result_map_both (λ words. words) troubles.WordsRefused (dictionary_of text)

-- the setup in the named file, or what is wrong with it
abbrev pub setup_in : Contents → List ℕ → Result SetupEntries Trouble
setup_in files name = do
  setup ← demand (troubles.Missing kinds.Setup) (setups.setup_in files name)
  result_map_both (λ entries. entries) troubles.SetupRefused setup

-- the setup in the named file and the words of the list that it names, or the first thing that is wrong with them
abbrev pub service_in : List Key → Contents → List ℕ → Result FoundService Trouble
service_in forms files name =
    result_map_both (λ found. found) trouble_of_service (services.service_in forms files name)

-- the kinds of files that a mode reads whole
abbrev pub only_words : FileKind → Bool
only_words kinds.Words = true
only_words _ = false

-- the setup alone
abbrev pub only_setup : FileKind → Bool
only_setup kinds.Setup = true
only_setup _ = false

-- the setup and the word list that it names
abbrev pub setup_and_words : FileKind → Bool
setup_and_words kinds.Log = false
setup_and_words _ = true

abbrev pub setup_and_log : FileKind → Bool
setup_and_log kinds.Words = false
setup_and_log _ = true

-- why files of these kinds weren't read: a reading failed, memory ran out, or the files, if they report, say so
abbrev pub IsUnread : (FileKind → Bool) → (Contents → Trouble → Type 0) → Option Contents → Type 0 → Trouble → Type 0
IsUnread reads says contents ReadFailed troubles.OutOfMemory = Unit {0}
IsUnread reads says contents ReadFailed troubles.ReadFailed = ReadFailed
IsUnread reads says contents ReadFailed (troubles.Missing file) =
    IsTrue (reads file) × IfSome contents (λ files. says files (troubles.Missing file))
IsUnread reads says contents ReadFailed (troubles.SetupRefused fault) =
    IsTrue (reads kinds.Setup) × IfSome contents (λ files. says files (troubles.SetupRefused fault))
IsUnread reads says contents ReadFailed (troubles.WordsRefused fault) =
    IsTrue (reads kinds.Words) × IfSome contents (λ files. says files (troubles.WordsRefused fault))
IsUnread reads says contents ReadFailed _ = ⊥

-- why the word list in the named file wasn't read
abbrev pub IsUnreadList : Option Contents → List ℕ → Type 0 → Trouble → Type 0
IsUnreadList contents name ReadFailed trouble =
    IsUnread only_words (λ files t. list_in files name ≡ Err t) contents ReadFailed trouble

-- why the setup in the named file wasn't read
abbrev pub IsUnreadSetup : Option Contents → List ℕ → Type 0 → Trouble → Type 0
IsUnreadSetup contents name ReadFailed trouble =
    IsUnread only_setup (λ files t. setup_in files name ≡ Err t) contents ReadFailed trouble

abbrev pub IsUnreadService : List Key → Option Contents → List ℕ → Type 0 → Trouble → Type 0
IsUnreadService forms contents name ReadFailed trouble =
    IsUnread setup_and_words (λ files t. service_in forms files name ≡ Err t) contents ReadFailed trouble
