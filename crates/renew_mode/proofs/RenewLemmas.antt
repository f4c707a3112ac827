use Rattle.std.proofs.Common.{◌≡◌, ℕ, ◌≤◌, List, [], ◌∷◌, map, Option, Some, None, Ok, IfSome, refl, sym, ap, ◌∙◌, arith, option_map}
use Rattle.outside.specs.Files.{Contents, SameFiles}
use Rattle.outside.specs.Told.{Goes, Rose}
use Rattle.outside.proofs.Told.{Rose-within}
use Rattle.policy_model.specs.declared.account.Account.{Account}
use Rattle.policy_model.specs.Settings.{Settings}
use Rattle.file_front.specs.declared.list.ListError.{ListError}
use Rattle.file_front.specs.declared.list.ListError.TheVariants as list_errors
use Rattle.file_front.specs.Lists.{IsJudgedSo, IsListFault, list_text}
use Rattle.otp_ledger.specs.Accounts.{new_state}
use Rattle.account_writer.specs.CurrentSetup.{current_accounts, current_setup}
use Rattle.setup_reading.specs.declared.reading.SetupFileError.{SetupFileError}
use Rattle.setup_reading.specs.declared.reading.SetupFileError.TheVariants as setup_errors
use Rattle.trouble.specs.declared.trouble.LogFault.TheVariants as log_faults
use Rattle.trouble.specs.declared.trouble.Trouble.{Trouble}
use Rattle.trouble.specs.declared.trouble.Trouble.TheVariants as troubles
use Rattle.trouble.specs.Reading.{trouble_of_list, trouble_of_setup}
use Rattle.trouble.proofs.Unread.{list_unread, setup_unread}
use Rattle.setup_reading.specs.Read.{IsSetupError, IsSetupIn, judged_setup}
use Rattle.setup_reading.proofs.ReadLemmas.{IsSetupIn-later}
use Rattle.otp_extended.specs.Commands.{RenewParts}
use Rattle.renew_mode.specs.declared.basis.Basis.{Basis}
use Rattle.renew_mode.specs.Bases.{HasBasis, HasFreshLog, IsFileTrouble, IsReady, IsUnready}
use Rattle.renew_mode.specs.Installing.{IsLogRefused}

-- ---- a setup that is written

-- a new ledger knows of each account what the setup says
new-accounts : (accounts : List Account) → current_accounts accounts (map new_state accounts) ≡ accounts
new-accounts [] = refl
new-accounts (account ∷ accounts) = ap (λ rest. account ∷ rest) (new-accounts accounts)

pub new-setup : (setup : Settings) → current_setup setup (map new_state setup.accounts) ≡ setup
new-setup setup = ap (λ (accounts : List Account). record setup { accounts = accounts }) (new-accounts setup.accounts)

-- ---- the setup and the word list

pub HasBasis-read : (before after : Option Contents) (name : List ℕ) (basis : Basis) → Goes SameFiles before after → IsSetupIn before name basis.setup → IsJudgedSo after basis.setup.words (Ok basis.dictionary) → IfSome after (HasBasis name basis)
HasBasis-read before None name basis goes spelled listed = tt
HasBasis-read None (Some files) name basis goes spelled listed = absurd goes
HasBasis-read (Some before) (Some files) name basis goes spelled listed =
    record { spelled = IsSetupIn-later (Some before) (Some files) name basis.setup goes spelled; listed = listed }

-- what files hold of a setup and a word list those hold that are the same
basis-same : (a b : Contents) (name : List ℕ) (basis : Basis) → ((other : List ℕ) → a other ≡ b other) → HasBasis name basis b → HasBasis name basis a
basis-same a b name basis same has = record {
  spelled = ap (option_map judged_setup) (same name) ∙ has.spelled;
  listed = (has.listed.0, ap list_text (same basis.setup.words) ∙ has.listed.1, has.listed.2);
}

fresh-same : (a b : Contents) (log : Option (List ℕ)) → ((other : List ℕ) → a other ≡ b other) → HasFreshLog log b → HasFreshLog log a
fresh-same a b None same fresh = fresh
fresh-same a b (Some log) same fresh = same log ∙ fresh

-- what was read is there still where the files stay the same
pub HasBasis-later : (before after : Option Contents) (name : List ℕ) (basis : Basis) → Goes SameFiles before after → IfSome before (HasBasis name basis) → IfSome after (HasBasis name basis)
HasBasis-later before None name basis goes has = tt
HasBasis-later None (Some after) name basis goes has = absurd goes
HasBasis-later (Some before) (Some after) name basis goes has = basis-same after before name basis (λ other. goes.same other) has

-- beside a log that is fresh
pub IsReady-of : (contents : Option Contents) (parts : RenewParts) (basis : Basis) → IfSome contents (HasBasis parts.setup basis) → IfSome contents (HasFreshLog parts.log) → IfSome contents (IsReady parts basis)
IsReady-of None parts basis has fresh = tt
IsReady-of (Some files) parts basis has fresh = record { has = has; fresh = fresh }

-- what the files held before, if they hold it still
pub IsReady-before : (before between after : Option Contents) (parts : RenewParts) (basis : Basis) (Step : Contents → Contents → Type 0) → Goes SameFiles before between → Goes Step between after → IfSome between (IsReady parts basis) → Goes (λ files _. IsReady parts basis files) before after
IsReady-before before between None parts basis Step goes step ready = tt
IsReady-before before None (Some after) parts basis Step goes step ready = absurd step
IsReady-before None (Some between) (Some after) parts basis Step goes step ready = absurd goes
IsReady-before (Some before) (Some between) (Some after) parts basis Step goes step ready = record {
  has = basis-same before between parts.setup basis (λ other. sym (goes.same other)) ready.has;
  fresh = fresh-same before between parts.log (λ other. sym (goes.same other)) ready.fresh;
}

-- an error of the setup's file
pub IsFileTrouble-setup : (contents : Option Contents) (name : List ℕ) (ReadFailed : Type 0) (error : SetupFileError) → IsSetupError contents name ReadFailed error → IsFileTrouble contents name ReadFailed (trouble_of_setup error)
IsFileTrouble-setup contents name R setup_errors.Failed why = why
IsFileTrouble-setup contents name R setup_errors.OutOfMemory why = tt
IsFileTrouble-setup contents name R setup_errors.Missing why = setup_unread contents name R setup_errors.Missing why
IsFileTrouble-setup contents name R (setup_errors.Refused fault) why = setup_unread contents name R (setup_errors.Refused fault) why

-- an error of the word list's file, after the setup's
pub IsFileTrouble-list : (before after : Option Contents) (name : List ℕ) (setup : Settings) (first between last : ℕ) (error : ListError) → Goes SameFiles before after → IsSetupIn before name setup → first ≤ between → IsListFault after setup.words (Rose between last) error → IsFileTrouble after name (Rose first last) (trouble_of_list error)
IsFileTrouble-list before after name setup first between last list_errors.Failed goes spelled le why =
    Rose-within first between last last le why (omega arith)
IsFileTrouble-list before after name setup first between last list_errors.OutOfMemory goes spelled le why = tt
IsFileTrouble-list before after name setup first between last list_errors.Missing goes spelled le why =
    record { setup = setup; spelled = IsSetupIn-later before after name setup goes spelled; unread = list_unread after setup.words (Rose between last) list_errors.Missing why }
IsFileTrouble-list before after name setup first between last (list_errors.Refused fault) goes spelled le why =
    record { setup = setup; spelled = IsSetupIn-later before after name setup goes spelled; unread = list_unread after setup.words (Rose between last) (list_errors.Refused fault) why }

-- ---- why the input isn't asked for

-- there is no setup or no word list
pub IsUnready-file : (parts : RenewParts) (contents : Option Contents) (ReadFailed : Type 0) (trouble : Trouble) → IsFileTrouble contents parts.setup ReadFailed trouble → IsUnready parts contents ReadFailed trouble
IsUnready-file parts contents R (troubles.LogRefused log_faults.NotFresh) why = absurd why
IsUnready-file parts contents R troubles.OutOfMemory why = tt
IsUnready-file parts contents R troubles.ReadFailed why = why
IsUnready-file parts contents R (troubles.Missing file) why = why
IsUnready-file parts contents R (troubles.SetupRefused fault) why = why
IsUnready-file parts contents R (troubles.WordsRefused fault) why = why
IsUnready-file parts contents R (troubles.LogRefused (log_faults.Record number)) why = why
IsUnready-file parts contents R (troubles.Serving fault) why = why
IsUnready-file parts contents R troubles.ReplaceFailed why = why
IsUnready-file parts contents R troubles.EndsFailed why = why
IsUnready-file parts contents R troubles.PhraseRefused why = why
IsUnready-file parts contents R (troubles.ResponseRefused fault) why = why
IsUnready-file parts contents R (troubles.NoRenewal fault) why = why

-- the log is refused, after a setup and a word list
pub IsUnready-log : (setup user : List ℕ) (log : Option (List ℕ)) (contents : Option Contents) (basis : Basis) (first between last : ℕ) (trouble : Trouble) → IfSome contents (HasBasis setup basis) → first ≤ between → IsLogRefused log contents (Rose between last) trouble → IsUnready (record { setup = setup; user = user; log = log }) contents (Rose first last) trouble
IsUnready-log setup user None contents basis first between last trouble has le refused = absurd refused
IsUnready-log setup user (Some log) contents basis first between last (troubles.LogRefused log_faults.NotFresh) has le refused =
    record { log = log; named = refl; basis = basis; has = has; unfresh = refused }
IsUnready-log setup user (Some log) contents basis first between last troubles.ReadFailed has le refused =
    Rose-within first between last last le refused (omega arith)
IsUnready-log setup user (Some log) contents basis first between last troubles.OutOfMemory has le refused = tt
IsUnready-log setup user (Some log) contents basis first between last (troubles.Missing file) has le refused = absurd refused
IsUnready-log setup user (Some log) contents basis first between last (troubles.SetupRefused fault) has le refused = absurd refused
IsUnready-log setup user (Some log) contents basis first between last (troubles.WordsRefused fault) has le refused = absurd refused
IsUnready-log setup user (Some log) contents basis first between last (troubles.LogRefused (log_faults.Record number)) has le refused = absurd refused
IsUnready-log setup user (Some log) contents basis first between last (troubles.Serving fault) has le refused = absurd refused
IsUnready-log setup user (Some log) contents basis first between last troubles.ReplaceFailed has le refused = absurd refused
IsUnready-log setup user (Some log) contents basis first between last troubles.EndsFailed has le refused = absurd refused
IsUnready-log setup user (Some log) contents basis first between last troubles.PhraseRefused has le refused = absurd refused
IsUnready-log setup user (Some log) contents basis first between last (troubles.ResponseRefused fault) has le refused = absurd refused
IsUnready-log setup user (Some log) contents basis first between last (troubles.NoRenewal fault) has le refused = absurd refused
