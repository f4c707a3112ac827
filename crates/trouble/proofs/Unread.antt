-- What a reader of a file answers is why the file wasn't read.
use Rattle.std.proofs.Common.{ℕ, List, take, Option, Some, None, Result, refl, ap, ◌∙◌}
use Rattle.std.specs.Prelude.{option_map}
use Rattle.std.specs.Result.{result_map_both}
use Rattle.request_catalogue.specs.Results.{demand, ◌>>=◌}
use Rattle.outside.specs.Files.{Contents}
use Rattle.otp_words.specs.Lists.{dictionary_of}
use Rattle.info_hooks.specs.declared.key.Key.{Key}
use Rattle.account_file.specs.declared.fault.SetupFault.{SetupFault}
use Rattle.account_file.specs.Entries.{SetupEntries}
use Rattle.file_front.specs.declared.list.ListError.{ListError}
use Rattle.file_front.specs.declared.list.ListError.TheVariants as list_errors
use Rattle.file_front.specs.Lists.{IsListFault}
use Rattle.setup_reading.specs.declared.reading.SetupFileError.{SetupFileError}
use Rattle.setup_reading.specs.declared.reading.SetupFileError.TheVariants as setup_errors
use Rattle.setup_reading.specs.Read.{IsSetupError}
use Rattle.service_reading.specs.declared.error.ServiceError.{ServiceError}
use Rattle.service_reading.specs.declared.error.ServiceError.TheVariants as service_errors
use Rattle.service_reading.specs.Errors.{IsServiceError}
use Rattle.trouble.specs.declared.trouble.FileKind.TheVariants as kinds
use Rattle.trouble.specs.declared.trouble.Trouble.{Trouble}
use Rattle.trouble.specs.declared.trouble.Trouble.TheVariants as troubles
use Rattle.trouble.specs.Reading.{IsUnreadList, IsUnreadService, IsUnreadSetup, trouble_of_list, trouble_of_service}
use Rattle.trouble.specs.Reading.{trouble_of_setup}

-- the words of a list's text, or what is wrong with it
abbrev pub found_list : Option (List ℕ) → Result (List (List ℕ)) Trouble
found_list text = demand (troubles.Missing kinds.Words) text >>= λ bytes. result_map_both (λ words. words) troubles.WordsRefused (dictionary_of bytes)

-- the setup of a file, or what is wrong with it
abbrev found_setup : Option (Result SetupEntries SetupFault) → Result SetupEntries Trouble
found_setup setup = demand (troubles.Missing kinds.Setup) setup >>= λ found. result_map_both (λ entries. entries) troubles.SetupRefused found

pub list_unread : (contents : Option Contents) (name : List ℕ) (ReadFailed : Type 0) (error : ListError) → IsListFault contents name ReadFailed error → IsUnreadList contents name ReadFailed (trouble_of_list error)
list_unread contents name R list_errors.Failed why = why
list_unread contents name R list_errors.OutOfMemory why = tt
list_unread None name R list_errors.Missing why = (refl, tt)
list_unread (Some files) name R list_errors.Missing why = (refl, ap (λ file. found_list (option_map (take 16385) file)) why)
list_unread None name R (list_errors.Refused fault) why = (refl, tt)
list_unread (Some files) name R (list_errors.Refused fault) (text, is, judged) =
    (refl, ap found_list is ∙ ap (result_map_both (λ words. words) troubles.WordsRefused) judged)

pub setup_unread : (contents : Option Contents) (name : List ℕ) (ReadFailed : Type 0) (error : SetupFileError) → IsSetupError contents name ReadFailed error → IsUnreadSetup contents name ReadFailed (trouble_of_setup error)
setup_unread contents name R setup_errors.Failed why = why
setup_unread contents name R setup_errors.OutOfMemory why = tt
setup_unread None name R setup_errors.Missing why = (refl, tt)
setup_unread (Some files) name R setup_errors.Missing why = (refl, ap found_setup why)
setup_unread None name R (setup_errors.Refused fault) why = (refl, tt)
setup_unread (Some files) name R (setup_errors.Refused fault) why = (refl, ap found_setup why)

pub service_unread : (forms : List Key) (contents : Option Contents) (name : List ℕ) (ReadFailed : Type 0) (error : ServiceError) → IsServiceError forms contents name ReadFailed error → IsUnreadService forms contents name ReadFailed (trouble_of_service error)
service_unread forms contents name R service_errors.Failed why = why
service_unread forms contents name R service_errors.OutOfMemory why = tt
service_unread forms None name R service_errors.SetupMissing why = (refl, tt)
service_unread forms (Some files) name R service_errors.SetupMissing why = (refl, ap (result_map_both (λ s. s) trouble_of_service) why)
service_unread forms None name R service_errors.WordsMissing why = (refl, tt)
service_unread forms (Some files) name R service_errors.WordsMissing why = (refl, ap (result_map_both (λ s. s) trouble_of_service) why)
service_unread forms None name R (service_errors.SetupRefused fault) why = (refl, tt)
service_unread forms (Some files) name R (service_errors.SetupRefused fault) why = (refl, ap (result_map_both (λ s. s) trouble_of_service) why)
service_unread forms None name R (service_errors.WordsRefused fault) why = (refl, tt)
service_unread forms (Some files) name R (service_errors.WordsRefused fault) why = (refl, ap (result_map_both (λ s. s) trouble_of_service) why)
