-- What files say of a service, they say as long as they stay the same.
use Rattle.std.proofs.Common.{◌≡◌, ℕ, ◌≤◌, arith, true, List, [], ◌∷◌, Option, Some, None, Result, Ok, refl, sym, ap, subst, ◌∙◌}
use Rattle.std.specs.Option.{option_to_list}
use Rattle.std.specs.Prelude.{IfSome, is_ok, is_some}
use Rattle.std.proofs.lemmas.Bool.{false≢true}
use Rattle.info_hooks.specs.declared.key.Key.{Key}
use Rattle.outside.specs.Files.{Contents, SameFiles}
use Rattle.outside.specs.FilesNow.{FilesNow, OnlyReads}
use Rattle.outside.specs.Told.{Goes, Rose}
use Rattle.outside.proofs.Told.{Rose-within}
use Rattle.fixed_list.specs.FixedList.{list_of}
use Rattle.otp_words.specs.Dictionaries.{plain_words}
use Rattle.policy_model.specs.Salt.{plain_salt}
use Rattle.policy_model.specs.Settings.{Settings, plain_settings}
use Rattle.service_model.specs.Service.{Service}
use Rattle.account_file.specs.Entries.{entries_of}
use Rattle.account_file.proofs.Once.{setup_once}
use Rattle.setup_reading.specs.Touching.{ReadsNamed}
use Rattle.setup_reading.proofs.Touching.{reads_more}
use Rattle.service_reading.specs.declared.error.ServiceError.{ServiceError}
use Rattle.service_reading.specs.declared.error.ServiceError.TheVariants as service_errors
use Rattle.service_reading.specs.Errors.{IsServiceError}
use Rattle.service_reading.specs.Found.{FoundService, IsServiceIn, service_in}
use Rattle.fresh_log.specs.Fresh.{IsFresh}
use Rattle.trouble.specs.declared.trouble.LogFault.TheVariants as log_faults
use Rattle.trouble.specs.declared.trouble.Trouble.{Trouble}
use Rattle.trouble.specs.declared.trouble.Trouble.TheVariants as troubles
use Rattle.trouble.specs.Reading.{trouble_of_service}
use Rattle.trouble.proofs.Unread.{service_unread}
use Rattle.serve_mode.specs.Services.{HasFreshLog, IsServable, IsServedBy, IsUnfresh, plain_entries, tell_throughout}
use Rattle.serve_mode.specs.Steps.{IsLogRefused, IsReadFrom, IsUnready, log_of, service_by}
use Rattle.serve_mode.specs.Words.{Named, Plain, Source, files_of, setups_of}

-- the file of this name, as the files told before the run and tell still, spells the setup, and the one that it names the word list; the log is fresh
pub record IsNamedService (name : List ℕ) (log : Option (List ℕ)) (forms : List Key) (old new : Option Contents) (service : Service) : Type 0 where
  pub forms_are : service.forms ≡ forms
  pub files : Contents
  pub told : old ≡ Some files
  pub still : is_some new ≡ true
  pub found : service_in forms files name ≡ Ok (record { entries = entries_of service.setup; words = service.words })
  pub fresh : HasFreshLog log files

-- the plain setup with the plain word list
abbrev pub plain_service : List Key → Service
plain_service forms = record { setup = plain_settings; words = plain_words; forms = forms }

-- a file would say this of the plain setup
plain_is : entries_of plain_settings ≡ plain_entries
unfolding list_of plain_salt
plain_is = refl

-- what a run serves by, whose setup comes from there and that can say this
abbrev pub IsServiceOf : Source → List Key → Option Contents → Option Contents → Service → Type 0
IsServiceOf Plain forms old new service = service ≡ plain_service forms
IsServiceOf (Named name log) forms old new service = IsNamedService name log forms old new service

-- what is served by, where the files tell throughout
pub service_of : (source : Source) (forms : List Key) (old new : Option Contents) (service : Service) → tell_throughout source old new ≡ true → IsServedBy source forms old new service → IsServiceOf source forms old new service
service_of Plain forms old new service told (forms_are, words_are, entries_are) =
    let setup_is = setup_once service.setup plain_settings (entries_are ∙ sym plain_is) in
    λ i. record { setup = setup_is i; words = words_are i; forms = forms_are i }
service_of (Named name log) forms None new service told is = absurd (false≢true told)
service_of (Named name log) forms (Some files) new service told (forms_are, read) = record { forms_are = forms_are; files = files; told = refl; still = told; found = (read told).0; fresh = (read told).1 }

-- what files say of a service they say of those that they are still the same as
pub service_still : (forms : List Key) (files later : Contents) (name : List ℕ) → SameFiles files later → service_in forms later name ≡ service_in forms files name
service_still forms files later name kept = ap (λ (c : Contents). service_in forms c name) (λ i other. kept.same other i)

-- two services that the same files say are the same
same_found : (a b : Service) → ◌≡◌ {A = Result FoundService ServiceError} (Ok (record { entries = entries_of a.setup; words = a.words })) (Ok (record { entries = entries_of b.setup; words = b.words })) → a.forms ≡ b.forms → a ≡ b
same_found a b e forms =
    let found : ◌≡◌ {A = FoundService} (record { entries = entries_of a.setup; words = a.words }) (record { entries = entries_of b.setup; words = b.words }) = cc in
    let setup = setup_once a.setup b.setup (ap (λ (f : FoundService). f.entries) found) in
    let words = ap (λ (f : FoundService). f.words) found in
    λ i. record { setup = setup i; words = words i; forms = forms i }

-- what was read is what the run is promised by, where the files tell
pub read_is : (source : Source) (forms : List Key) (old mid new : Option Contents) (setup : Settings) (words : List (List ℕ)) (service : Service) → IsReadFrom source forms mid setup words → Goes SameFiles old mid → (is_some new ≡ true → is_some mid ≡ true) → IsServiceOf source forms old new service → service ≡ service_by setup words forms
read_is Plain forms old mid new setup words service (setup_is, words_are) kept telling is = is ∙ (λ i. record { setup = sym setup_is i; words = sym words_are i; forms = forms })
read_is (Named name log) forms old mid new setup words service read kept telling is = go old mid is.told kept read (telling is.still) where
  go : (old mid : Option Contents) → old ≡ Some is.files → Goes SameFiles old mid → IsServiceIn forms mid name setup words → is_some mid ≡ true → service ≡ service_by setup words forms
  go old None told kept read some = absurd cc
  go None (Some later) told kept read some = absurd kept
  go (Some files) (Some later) told kept read some =
      let same : files ≡ is.files = cc in
      same_found service (service_by setup words forms) (sym is.found ∙ ap (λ (c : Contents). service_in forms c name) (sym same) ∙ sym (service_still forms files later name kept) ∙ read) is.forms_are

-- a log that is fresh in files is in those that they are the same as
pub still_fresh : (log : Option (List ℕ)) (files later : Contents) → SameFiles files later → HasFreshLog log later → HasFreshLog log files
still_fresh None files later kept fresh = fresh
still_fresh (Some log) files later kept fresh = subst IsFresh (kept.same log) fresh

-- what was read is what the run was served by, as the files stood before it
pub read_by : (source : Source) (forms : List Key) (old mid new : Option Contents) (setup : Settings) (words : List (List ℕ)) → IsReadFrom source forms mid setup words → IfSome mid (HasFreshLog (log_of source)) → Goes SameFiles old mid → (is_some new ≡ true → is_some mid ≡ true) → IsServedBy source forms old new (service_by setup words forms)
read_by Plain forms old mid new setup words (setup_is, words_are) fresh kept telling = (refl, words_are, ap entries_of setup_is ∙ plain_is)
read_by (Named name log) forms old mid new setup words read fresh kept telling = (refl, λ still. both old (reads old mid (telling still) read kept) (freshens old mid (telling still) fresh kept)) where
  both : (old : Option Contents) → IsServiceIn forms old name setup words → IfSome old (HasFreshLog log) → IfSome old (λ files. (service_in forms files name ≡ Ok (record { entries = entries_of setup; words = words })) × HasFreshLog log files)
  both None read fresh = tt
  both (Some files) read fresh = (read, fresh)

  reads : (old mid : Option Contents) → is_some mid ≡ true → IsServiceIn forms mid name setup words → Goes SameFiles old mid → IsServiceIn forms old name setup words
  reads old None some read kept = absurd cc
  reads None (Some later) some read kept = absurd kept
  reads (Some files) (Some later) some read kept = sym (service_still forms files later name kept) ∙ read

  freshens : (old mid : Option Contents) → is_some mid ≡ true → IfSome mid (HasFreshLog log) → Goes SameFiles old mid → IfSome old (HasFreshLog log)
  freshens old None some fresh kept = absurd cc
  freshens None (Some later) some fresh kept = absurd kept
  freshens (Some files) (Some later) some fresh kept = still_fresh log files later kept fresh

-- what was read is there still where the files stay the same
pub read_still : (source : Source) (forms : List Key) (mid new : Option Contents) (setup : Settings) (words : List (List ℕ)) → IsReadFrom source forms mid setup words → Goes SameFiles mid new → IsReadFrom source forms new setup words
read_still Plain forms mid new setup words read kept = read
read_still (Named name log) forms mid None setup words read kept = tt
read_still (Named name log) forms None (Some later) setup words read kept = absurd kept
read_still (Named name log) forms (Some files) (Some later) setup words read kept = service_still forms files later name kept ∙ read

-- what was read, beside a fresh log, is all that a run is by
pub ready_by : (source : Source) (forms : List Key) (contents : Option Contents) (setup : Settings)
    (words : List (List ℕ)) → IsReadFrom source forms contents setup words
    → IfSome contents (HasFreshLog (log_of source)) → IsServable source forms contents
ready_by Plain forms contents setup words read fresh = tt
ready_by (Named name log) forms None setup words read fresh = tt
ready_by (Named name log) forms (Some files) setup words read fresh = (ap is_ok read, fresh)

-- what the reader of a service answers leaves nothing to begin with
pub unready_service : (source : Source) (name : List ℕ) (log : Option (List ℕ)) (forms : List Key) (contents : Option Contents) (ReadFailed : Type 0) (error : ServiceError) → source ≡ Named name log → IsServiceError forms contents name ReadFailed error → IsUnready source forms contents ReadFailed (trouble_of_service error)
unready_service source name log forms contents R error is why = subst (λ s. IsUnready s forms contents R (trouble_of_service error)) (sym is) (go error why) where
  go : (error : ServiceError) → IsServiceError forms contents name R error → IsUnready (Named name log) forms contents R (trouble_of_service error)
  go service_errors.Failed why = why
  go service_errors.OutOfMemory why = tt
  go service_errors.SetupMissing why = service_unread forms contents name R service_errors.SetupMissing why
  go service_errors.WordsMissing why = service_unread forms contents name R service_errors.WordsMissing why
  go (service_errors.SetupRefused fault) why = service_unread forms contents name R (service_errors.SetupRefused fault) why
  go (service_errors.WordsRefused fault) why = service_unread forms contents name R (service_errors.WordsRefused fault) why

-- a log that is refused after what was read leaves nothing to begin with
pub unready_log : (source : Source) (forms : List Key) (mid new : Option Contents) (setup : Settings) (words : List (List ℕ)) (first meanwhile last : ℕ) (trouble : Trouble) → IsReadFrom source forms mid setup words → Goes SameFiles mid new → first ≤ meanwhile → IsLogRefused (log_of source) new (Rose meanwhile last) trouble → IsUnready source forms new (Rose first last) trouble
unready_log Plain forms mid new setup words first meanwhile last trouble read kept low refused = absurd refused
unready_log (Named name None) forms mid new setup words first meanwhile last trouble read kept low refused = absurd refused
unready_log (Named name (Some log)) forms mid new setup words first meanwhile last (troubles.LogRefused log_faults.NotFresh) read kept low refused = go mid new read kept refused where
  go : (mid new : Option Contents) → IsServiceIn forms mid name setup words → Goes SameFiles mid new → IfSome new (λ files. IsFresh (files log) → ⊥) → IsUnfresh (Named name (Some log)) forms new
  go mid None read kept refused = tt
  go None (Some later) read kept refused = absurd kept
  go (Some files) (Some later) read kept refused = (ap is_ok (service_still forms files later name kept ∙ read), refused)
unready_log (Named name (Some log)) forms mid new setup words first meanwhile last troubles.ReadFailed read kept low refused = Rose-within first meanwhile last last low refused (omega arith)
unready_log (Named name (Some log)) forms mid new setup words first meanwhile last troubles.OutOfMemory read kept low refused = tt
unready_log (Named name (Some log)) forms mid new setup words first meanwhile last (troubles.Missing _) read kept low refused = absurd refused
unready_log (Named name (Some log)) forms mid new setup words first meanwhile last (troubles.SetupRefused _) read kept low refused = absurd refused
unready_log (Named name (Some log)) forms mid new setup words first meanwhile last (troubles.WordsRefused _) read kept low refused = absurd refused
unready_log (Named name (Some log)) forms mid new setup words first meanwhile last (troubles.LogRefused (log_faults.Record _)) read kept low refused = absurd refused
unready_log (Named name (Some log)) forms mid new setup words first meanwhile last (troubles.Serving _) read kept low refused = absurd refused
unready_log (Named name (Some log)) forms mid new setup words first meanwhile last (troubles.ResponseRefused _) read kept low refused = absurd refused
unready_log (Named name (Some log)) forms mid new setup words first meanwhile last (troubles.NoRenewal _) read kept low refused = absurd refused
unready_log (Named name (Some log)) forms mid new setup words first meanwhile last troubles.ReplaceFailed read kept low refused = absurd refused
unready_log (Named name (Some log)) forms mid new setup words first meanwhile last troubles.EndsFailed read kept low refused = absurd refused
unready_log (Named name (Some log)) forms mid new setup words first meanwhile last troubles.PhraseRefused read kept low refused = absurd refused

-- ---- which files are touched

-- what was read, and then perhaps the log
pub ready_files : (source : Source) (a b c : FilesNow) → ReadsNamed (setups_of source) (setups_of source) a b → OnlyReads (option_to_list (log_of source)) b c → ReadsNamed (files_of source) (setups_of source) a c
ready_files Plain a b c first second = reads_more [] [] [] a b c first second
ready_files (Named name log) a b c first second = reads_more (name ∷ []) (name ∷ []) (option_to_list log) a b c first second
