-- Believed: what comes of a setup and an image that were read.
use Rattle.std.specs.Prelude.{◌≡◌, ◌≢◌, ◌⊎◌, ℕ, zero, suc, List, [], map, Option, Some, Result, Ok, Err}
use Rattle.std.specs.String.{string_bytes}
use Rattle.outside.specs.Files.{Contents, Replaced, SameFiles}
use Rattle.outside.specs.Link.{Exchanged, Link, SendsPart}
use Rattle.outside.specs.Told.{Goes}
use Rattle.policy_model.specs.declared.event.Event.{Event}
use Rattle.policy_model.specs.Settings.{Settings}
use Rattle.account_file.specs.Entries.{entries_of}
use Rattle.policy_model.specs.Logins.{account_after}
use Rattle.account_writer.specs.CurrentSetup.{current_setup}
use Rattle.account_writer.specs.Written.{IsFileOf}
use Rattle.setup_reading.specs.Read.{judged_setup}
use Rattle.durable_log.specs.Records.{HasRecords}
use Rattle.fresh_log.specs.Fresh.{IsFresh}
use Rattle.ledger_journal.specs.declared.answer.Recovered.{Recovered}
use Rattle.ledger_journal.specs.declared.answer.RecoverError.{RecoverError}
use Rattle.ledger_journal.specs.Journals.{IsBackAt, IsRecoveredAs, IsThereAlready, IsWhole, records_of}
use Rattle.ledger_journal.specs.Recovering.{HasSome, IsAnswerOf, IsFirstFault, IsLogOr}
use Rattle.trouble.specs.declared.trouble.LogFault.TheVariants as log_faults
use Rattle.trouble.specs.declared.trouble.Trouble.{Trouble}
use Rattle.trouble.specs.declared.trouble.Trouble.TheVariants as troubles
use Rattle.trouble.specs.Reading.{trouble_of_log}
use Rattle.recover_mode.specs.declared.line.Recovery.{Recovery}
use Rattle.recover_mode.specs.declared.texts.Texts.{Texts}
use Rattle.recover_mode.specs.Lines.{recovery_line}
use Rattle.recover_mode.specs.Words.{RecoverParts}

-- what a setup and an image bring back: it depends on the setup and the records alone, and a run's log comes back
pub record IsBroughtBack (setup : Settings) (image : List ℕ) (answer : Result Recovered RecoverError) : Type 0 where
  pub log : IsLogOr image answer
  pub exact : (records : List (List ℕ)) → HasRecords image records → IsAnswerOf setup records answer
  pub back : (journal : List Event) → IsWhole setup journal → HasRecords image (records_of journal)
      → IsRecoveredAs (IsBackAt setup journal) answer
  pub again : (first : Settings) (journal : List Event) → IsWhole first journal → setup.accounts
      ≡ map (account_after journal) first.accounts → HasRecords image (records_of journal)
      → IsRecoveredAs (IsThereAlready setup journal) answer

-- a record of the image has a fault, and this is the number of the first
pub record HasFirstFault (setup : Settings) (image : List ℕ) (number : ℕ) : Type 0 where
  pub records : List (List ℕ)
  pub has : HasRecords image records
  pub first : IsFirstFault setup records number

-- what a log is refused for: 0 says that it is no durable log, any other number is its first record with a fault
abbrev pub IsLogFault : Settings → List ℕ → ℕ → Type 0
IsLogFault setup image zero = HasSome image → ⊥
IsLogFault setup image (suc place) = HasFirstFault setup image (suc place)

-- the log is refused by this number, since it brings back nothing (`IsLogFault`)
pub record IsRefused (setup : Settings) (image : List ℕ) (number : ℕ) : Type 0 where
  pub error : RecoverError
  pub answered : IsBroughtBack setup image (Err error)
  pub told : trouble_of_log error ≡ troubles.LogRefused (log_faults.Record number)
  pub fault : IsLogFault setup image number

-- why nothing is written of a setup and an image: the log is refused, or out of memory
abbrev pub IsLogTrouble : Settings → List ℕ → Trouble → Type 0
IsLogTrouble setup image (troubles.LogRefused (log_faults.Record number)) = IsRefused setup image number
IsLogTrouble setup image troubles.OutOfMemory = Unit {0}
IsLogTrouble setup image _ = ⊥

-- what is written and sent of what was recovered
pub record AreTextsOf (parts : RecoverParts) (setup : Settings) (recovered : Recovered) (texts : Texts) : Type 0 where
  pub setup_file : texts.setup ≡ parts.setup
  pub log_file : texts.log ≡ parts.log
  pub spelled : judged_setup texts.bytes.items ≡ Ok (entries_of (current_setup setup recovered.ledger.accounts))
  pub written : IsFileOf (current_setup setup recovered.ledger.accounts) texts.bytes.items
  pub lines : texts.recovery.lines ≡ recovered.lines
  pub accepted : texts.recovery.accepted ≡ recovered.accepted
  pub line : string_bytes texts.line ≡ recovery_line texts.recovery

-- what `recover` writes and sends: the file of the setup as it was recovered, and a line with the counts
pub record AreTexts (parts : RecoverParts) (setup : Settings) (image : List ℕ) (texts : Texts) : Type 0 where
  pub recovered : Recovered
  pub answered : IsBroughtBack setup image (Ok recovered)
  pub setup_file : texts.setup ≡ parts.setup
  pub log_file : texts.log ≡ parts.log
  pub spelled : judged_setup texts.bytes.items ≡ Ok (entries_of (current_setup setup recovered.ledger.accounts))
  pub written : IsFileOf (current_setup setup recovered.ledger.accounts) texts.bytes.items
  pub lines : texts.recovery.lines ≡ recovered.lines
  pub accepted : texts.recovery.accepted ≡ recovered.accepted
  pub line : string_bytes texts.line ≡ recovery_line texts.recovery

-- the setup file, unless it is the log's, has these bytes, the log's has no records any more, and every other file is
-- as it was
pub record AreWritten (texts : Texts) (before after : Contents) : Type 0 where
  pub setup : texts.setup ≢ texts.log → after texts.setup ≡ Some texts.bytes.items
  pub log : IsFresh (after texts.log)
  pub others : (other : List ℕ) → other ≢ texts.setup → other ≢ texts.log → after other ≡ before other

-- nothing was written, or the setup alone, or the log too
pub record MayBeWritten (texts : Texts) (before after : Contents) : Type 0 where
  pub one : SameFiles before after ⊎ (Replaced texts.setup texts.bytes.items before after
      ⊎ AreWritten texts before after)

-- the files were written and then the line was sent, or which of these failed
abbrev pub IsPut : Texts → Option Contents → Option Contents → Option Link → Option Link → Type 0 → Type 0
    → Result Recovery Trouble → Type 0
IsPut texts old new before after ReplaceFailed EndsFailed (Ok recovery) =
    (recovery ≡ texts.recovery) × Goes (AreWritten texts) old new × Goes (Exchanged [] (string_bytes texts.line)) before
    after
IsPut texts old new before after ReplaceFailed EndsFailed (Err troubles.ReplaceFailed) =
    ReplaceFailed × Goes (MayBeWritten texts) old new × (after ≡ before)
IsPut texts old new before after ReplaceFailed EndsFailed (Err troubles.EndsFailed) =
    EndsFailed × Goes (AreWritten texts) old new × SendsPart (string_bytes texts.line) before after
IsPut texts old new before after ReplaceFailed EndsFailed (Err _) = ⊥
