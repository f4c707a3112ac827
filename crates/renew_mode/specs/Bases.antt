-- Believed: the setup, the word list and the log of a renewal, or why it has none.
use Rattle.std.specs.Prelude.{◌≡◌, ℕ, List, Option, Some, None, Ok, IfSome}
use Rattle.outside.specs.Files.{Contents}
use Rattle.policy_model.specs.Settings.{Settings}
use Rattle.file_front.specs.Lists.{IsJudgedSo}
use Rattle.account_file.specs.Entries.{entries_of}
use Rattle.setup_reading.specs.Read.{IsSetupIn, setup_in}
use Rattle.trouble.specs.declared.trouble.FileKind.TheVariants as kinds
use Rattle.trouble.specs.declared.trouble.LogFault.TheVariants as log_faults
use Rattle.trouble.specs.declared.trouble.Trouble.{Trouble}
use Rattle.trouble.specs.declared.trouble.Trouble.TheVariants as troubles
use Rattle.trouble.specs.Reading.{IsUnreadList, IsUnreadSetup}
use Rattle.fresh_log.specs.Fresh.{IsFresh}
use Rattle.otp_extended.specs.Commands.{RenewParts}
use Rattle.renew_mode.specs.declared.basis.Basis.{Basis}

-- the named file spells the setup, and the file that the setup names has the words
pub record HasBasis (name : List ℕ) (basis : Basis) (files : Contents) : Type 0 where
  pub spelled : setup_in files name ≡ Some (Ok (entries_of basis.setup))
  pub listed : IsJudgedSo (Some files) basis.setup.words (Ok basis.dictionary)

-- the named file spells a setup, and the word list that it names wasn't read
pub record IsListTrouble (contents : Option Contents) (name : List ℕ) (ReadFailed : Type 0)
    (trouble : Trouble) : Type 0 where
  pub setup : Settings
  pub spelled : IsSetupIn contents name setup
  pub unread : IsUnreadList contents setup.words ReadFailed trouble

-- why there is no setup or no word list: a read failed, memory ran out, or a file is missing or refused
abbrev pub IsFileTrouble : Option Contents → List ℕ → Type 0 → Trouble → Type 0
IsFileTrouble contents name ReadFailed (troubles.Missing kinds.Words) =
    IsListTrouble contents name ReadFailed (troubles.Missing kinds.Words)
IsFileTrouble contents name ReadFailed (troubles.WordsRefused fault) =
    IsListTrouble contents name ReadFailed (troubles.WordsRefused fault)
IsFileTrouble contents name ReadFailed trouble = IsUnreadSetup contents name ReadFailed trouble

-- a durable log that is named is there and has no records
abbrev pub HasFreshLog : Option (List ℕ) → Contents → Type 0
HasFreshLog None files = Unit {0}
HasFreshLog (Some log) files = IsFresh (files log)

-- the files have all that a renewal needs: this setup and word list, and a fresh log, if one is named
pub record IsReady (parts : RenewParts) (basis : Basis) (files : Contents) : Type 0 where
  pub has : HasBasis parts.setup basis files
  pub fresh : HasFreshLog parts.log files

-- setup and word list are there, but the log that is named is missing or isn't fresh, if the files report
pub record IsUnfresh (parts : RenewParts) (contents : Option Contents) : Type 0 where
  pub log : List ℕ
  pub named : parts.log ≡ Some log
  pub basis : Basis
  pub has : IfSome contents (HasBasis parts.setup basis)
  pub unfresh : IfSome contents (λ files. IsFresh (files log) → ⊥)

-- why no response was asked for: no setup or no word list was read, or the log isn't fresh
abbrev pub IsUnready : RenewParts → Option Contents → Type 0 → Trouble → Type 0
IsUnready parts contents ReadFailed (troubles.LogRefused log_faults.NotFresh) = IsUnfresh parts contents
IsUnready parts contents ReadFailed trouble = IsFileTrouble contents parts.setup ReadFailed trouble
