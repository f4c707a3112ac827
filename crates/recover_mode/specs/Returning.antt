-- Believed: what a run logged is what the mode `recover` writes.
use Rattle.std.specs.Prelude.{◌≡◌, ◌≢◌, List, count_by, length, map, Some, IfSome, Result, Ok, Err}
use Rattle.outside.specs.Files.{Contents}
use Rattle.policy_model.specs.declared.event.Event.{Event}
use Rattle.policy_model.specs.Asks.{accepts}
use Rattle.policy_model.specs.Settings.{Settings}
use Rattle.account_file.specs.Entries.{entries_of}
use Rattle.policy_model.specs.Logins.{account_after}
use Rattle.account_writer.specs.CurrentSetup.{setup_after}
use Rattle.account_writer.specs.Written.{IsFileOf}
use Rattle.setup_reading.specs.Read.{setup_in}
use Rattle.durable_log.specs.Records.{HasRecords}
use Rattle.ledger_journal.specs.Journals.{IsWhole, records_of}
use Rattle.trouble.specs.declared.trouble.Trouble.{Trouble}
use Rattle.trouble.specs.declared.trouble.Trouble.TheVariants as troubles
use Rattle.recover_mode.specs.declared.line.Recovery.{Recovery}
use Rattle.recover_mode.specs.Bases.{image_in}
use Rattle.recover_mode.specs.Words.{RecoverParts}

-- the files have a setup, and a log of exactly this whole journal of a run by it
pub record HasRun (parts : RecoverParts) (setup : Settings) (journal : List Event) (files : Contents) : Type 0 where
  pub spelled : setup_in files parts.setup ≡ Some (Ok (entries_of setup))
  pub whole : IsWhole setup journal
  pub logged : HasRecords (image_in (files parts.log)) (records_of journal)

-- the log of a run by a first setup, where the setup file already has what the journal says of each account
pub record HasRunAlready (parts : RecoverParts) (first setup : Settings) (journal : List Event)
    (files : Contents) : Type 0 where
  pub spelled : setup_in files parts.setup ≡ Some (Ok (entries_of setup))
  pub whole : IsWhole first journal
  pub already : setup.accounts ≡ map (account_after journal) first.accounts
  pub logged : HasRecords (image_in (files parts.log)) (records_of journal)

-- the setup file is read as this setup and is the file that is written for it, unless the log has the same name
abbrev pub IsSpelled : RecoverParts → Settings → Contents → Type 0
IsSpelled parts setup files =
    parts.setup ≢ parts.log → (setup_in files parts.setup ≡ Some (Ok (entries_of setup)))
    × IfSome (files parts.setup) (IsFileOf setup)

-- the counts of a recovery are those of this journal
pub record IsCounted (journal : List Event) (recovery : Recovery) : Type 0 where
  pub lines : recovery.lines ≡ length journal
  pub accepted : recovery.accepted ≡ count_by accepts journal

-- `recover` doesn't refuse the log of this journal, and once it has written, the setup file spells this setup
abbrev pub IsReturned : RecoverParts → Settings → List Event → Contents → Result Recovery Trouble → Type 0
IsReturned parts setup journal files (Ok recovery) = IsCounted journal recovery × IsSpelled parts setup files
IsReturned parts setup journal files (Err troubles.EndsFailed) = IsSpelled parts setup files
IsReturned parts setup journal files (Err (troubles.LogRefused fault)) = ⊥
IsReturned parts setup journal files (Err _) = Unit {0}

-- from a whole run's log, `recover` writes the setup after the run's journal; a setup that has it already stays as it
-- is
pub record BringsBack (parts : RecoverParts) (result : Result Recovery Trouble)
    (old new : Contents) : Type 0 where
  pub logged : (setup : Settings) (journal : List Event) → HasRun parts setup journal old
      → IsReturned parts (setup_after setup journal) journal new result
  pub again : (first setup : Settings) (journal : List Event) → HasRunAlready parts first setup journal old
      → IsReturned parts setup journal new result
