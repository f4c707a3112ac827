-- What files say of a service, step by step.
use Rattle.std.proofs.Common.{◌≡◌, ℕ, Bool, true, false, IfSome, List, Option, Some, None, Result, Ok, Err, sym, ap, subst, ◌∙◌}
use Rattle.std.specs.Bool.{then_some}
use Rattle.std.specs.Prelude.{option_map}
use Rattle.std.specs.Result.{result_map_both}
use Rattle.otp_words.specs.declared.fault.DictFault.{DictFault}
use Rattle.otp_words.specs.Lists.{dictionary_of}
use Rattle.request_catalogue.specs.Results.{demand, ◌>>=◌}
use Rattle.outside.specs.Files.{Contents, SameFiles}
use Rattle.outside.specs.Told.{Goes}
use Rattle.file_front.specs.declared.list.ListError.{ListError}
use Rattle.file_front.specs.declared.list.ListError.TheVariants as list_errors
use Rattle.file_front.specs.Lists.{IsJudgedSo, IsListFault, list_text}
use Rattle.info_hooks.specs.declared.key.Key.{Key}
use Rattle.policy_model.specs.Settings.{Settings}
use Rattle.account_file.specs.declared.fault.SetupFault.{SetupFault}
use Rattle.account_file.specs.declared.fault.SetupKey.TheVariants as keys
use Rattle.account_file.specs.declared.fault.SetupRule.TheVariants as rules
use Rattle.account_file.specs.Entries.{SetupEntries, entries_of}
use Rattle.account_file.specs.Faults.{demand_at}
use Rattle.setup_reading.specs.declared.reading.SetupFileError.{SetupFileError}
use Rattle.setup_reading.specs.declared.reading.SetupFileError.TheVariants as setup_errors
use Rattle.setup_reading.specs.Read.{IsSetupError, IsSetupIn, setup_in, judged_setup}
use Rattle.service_reading.specs.declared.error.ServiceError.{ServiceError}
use Rattle.service_reading.specs.declared.error.ServiceError.TheVariants as errors
use Rattle.service_reading.specs.Errors.{IsServiceError, error_of_list, error_of_setup}
use Rattle.service_reading.specs.Found.{FoundService, IsServiceIn, are_said, informed, service_in}

-- a service after its first steps
abbrev found_words : SetupEntries → Result (List (List ℕ)) DictFault → Result FoundService ServiceError
found_words entries words = result_map_both (λ w. w) errors.WordsRefused words >>= (λ w. Ok (record { entries = entries; words = w }))

abbrev found_text : SetupEntries → Option (List ℕ) → Result FoundService ServiceError
found_text entries text = demand errors.WordsMissing text >>= (λ t. found_words entries (dictionary_of t))

abbrev found_setup : Contents → Result SetupEntries SetupFault → Result FoundService ServiceError
found_setup files entries = result_map_both (λ e. e) errors.SetupRefused entries >>= (λ e. found_text e (list_text (files e.texts.words)))

abbrev found_file : List Key → Contents → Option (Result SetupEntries SetupFault) → Result FoundService ServiceError
found_file forms files setup = demand errors.SetupMissing setup >>= (λ s. found_setup files (s >>= informed forms))

-- the setup that was read is in the files still
setup_still : (files later : Contents) (name : List ℕ) → SameFiles files later → setup_in later name ≡ setup_in files name
setup_still files later name kept = ap (option_map judged_setup) (kept.same name)

-- the setup's file is at fault
pub setup_unread : (forms : List Key) (contents : Option Contents) (name : List ℕ) (ReadFailed : Type 0) (error : SetupFileError) → IsSetupError contents name ReadFailed error → IsServiceError forms contents name ReadFailed (error_of_setup error)
setup_unread forms contents name ReadFailed setup_errors.Failed why = why
setup_unread forms contents name ReadFailed setup_errors.OutOfMemory why = tt
setup_unread forms None name ReadFailed setup_errors.Missing why = tt
setup_unread forms (Some files) name ReadFailed setup_errors.Missing why = ap (found_file forms files) why
setup_unread forms None name ReadFailed (setup_errors.Refused fault) why = tt
setup_unread forms (Some files) name ReadFailed (setup_errors.Refused fault) why = ap (found_file forms files) why

-- a number of information can't be said
pub uninformed : (forms : List Key) (contents : Option Contents) (name : List ℕ) (ReadFailed : Type 0) (setup : Settings) (fault : SetupFault) → IsSetupIn contents name setup → informed forms (entries_of setup) ≡ Err fault → IsServiceError forms contents name ReadFailed (errors.SetupRefused fault)
uninformed forms None name ReadFailed setup fault there refused = tt
uninformed forms (Some files) name ReadFailed setup fault there refused = ap (found_file forms files) there ∙ ap (found_setup files) refused

-- a setup all of whose numbers of information can be said is the one that was read
pub informed_in : (forms : List Key) (contents : Option Contents) (name : List ℕ) (first setup : Settings) → informed forms (entries_of first) ≡ Ok (entries_of setup) → IsSetupIn contents name first → IsSetupIn contents name setup
informed_in forms contents name first setup said there =
    subst (λ (e : SetupEntries). IfSome contents (λ files. setup_in files name ≡ Some (Ok e))) (go (are_said forms (entries_of first).info) said) there where
      go : (b : Bool) → demand_at 0 keys.Info rules.NoHook (then_some b (entries_of first)) ≡ Ok (entries_of setup) → entries_of first ≡ entries_of setup
      go true e = cc
      go false e = absurd cc

-- what is found is what the word list says
listed : (forms : List Key) (files later : Contents) (name : List ℕ) (first setup : Settings) → SameFiles files later → setup_in files name ≡ Some (Ok (entries_of first)) → informed forms (entries_of first) ≡ Ok (entries_of setup) → service_in forms later name ≡ found_text (entries_of setup) (list_text (later setup.words))
listed forms files later name first setup kept there said =
    ap (found_file forms later) (setup_still files later name kept ∙ there) ∙ ap (found_setup later) said

-- the word list's file is at fault
pub list_unread : (forms : List Key) (before contents : Option Contents) (name words : List ℕ) (Failed ReadFailed : Type 0) (first setup : Settings) (error : ListError) → IsSetupIn before name first → informed forms (entries_of first) ≡ Ok (entries_of setup) → Goes SameFiles before contents → words ≡ setup.words → (Failed → ReadFailed) → IsListFault contents words Failed error → IsServiceError forms contents name ReadFailed (error_of_list error)
list_unread forms before contents name words Failed ReadFailed first setup error there said kept named weaker why = go error (subst (λ w. IsListFault contents w Failed error) named why) where
  go : (error : ListError) → IsListFault contents setup.words Failed error → IsServiceError forms contents name ReadFailed (error_of_list error)
  go list_errors.Failed why = weaker why
  go list_errors.OutOfMemory why = tt
  go list_errors.Missing why = at before contents there kept why where
    at : (before contents : Option Contents) → IsSetupIn before name first → Goes SameFiles before contents → IsListFault contents setup.words Failed list_errors.Missing → IsServiceError forms contents name ReadFailed errors.WordsMissing
    at before None there kept why = tt
    at None (Some later) there kept why = absurd kept
    at (Some files) (Some later) there kept why = listed forms files later name first setup kept there said ∙ ap (λ o. found_text (entries_of setup) (list_text o)) why
  go (list_errors.Refused fault) why = at before contents there kept why where
    at : (before contents : Option Contents) → IsSetupIn before name first → Goes SameFiles before contents → IsListFault contents setup.words Failed (list_errors.Refused fault) → IsServiceError forms contents name ReadFailed (errors.WordsRefused fault)
    at before None there kept why = tt
    at None (Some later) there kept why = absurd kept
    at (Some files) (Some later) there kept (text, is, judged) = listed forms files later name first setup kept there said ∙ ap (found_text (entries_of setup)) is ∙ ap (found_words (entries_of setup)) judged

-- both are right
pub service_read : (forms : List Key) (before contents : Option Contents) (name words : List ℕ) (first setup : Settings) (list : List (List ℕ)) → IsSetupIn before name first → informed forms (entries_of first) ≡ Ok (entries_of setup) → Goes SameFiles before contents → words ≡ setup.words → IsJudgedSo contents words (Ok list) → IsServiceIn forms contents name setup list
service_read forms before None name words first setup list there said kept named why = tt
service_read forms None (Some later) name words first setup list there said kept named why = absurd kept
service_read forms (Some files) (Some later) name words first setup list there said kept named (text, is, judged) =
    listed forms files later name first setup kept there said ∙ ap (λ w. found_text (entries_of setup) (list_text (later w))) (sym named) ∙ ap (found_text (entries_of setup)) is ∙ ap (found_words (entries_of setup)) judged
