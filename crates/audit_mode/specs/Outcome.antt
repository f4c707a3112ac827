-- Believed: what the mode `audit` came to, and why.
use Rattle.std.specs.Prelude.{◌≡◌, ℕ, Bool, true, false, List, [], length, take, Option, Some, None, Result, Ok, Err}
use Rattle.std.specs.Prelude.{IfSome}
use Rattle.std.specs.List.{concat}
use Rattle.outside.specs.Files.{Contents}
use Rattle.outside.specs.Link.{Exchanged, Link, SendsPart}
use Rattle.outside.specs.Told.{Goes}
use Rattle.policy_model.specs.declared.event.Event.{Event}
use Rattle.policy_model.specs.Journal.{kept_events}
use Rattle.policy_model.specs.Settings.{Settings}
use Rattle.setup_reading.specs.Read.{IsSetupIn}
use Rattle.trouble.specs.declared.trouble.FileKind.TheVariants as kinds
use Rattle.trouble.specs.declared.trouble.Trouble.{Trouble}
use Rattle.trouble.specs.declared.trouble.Trouble.TheVariants as troubles
use Rattle.trouble.specs.Reading.{IsUnreadSetup}
use Rattle.trouble.specs.Status.{trouble_status}
use Rattle.decision_log.specs.Log.{log_text}
use Rattle.durable_log.specs.Records.{HasRecords}
use Rattle.audit_check.specs.declared.answer.Audit.{Audit}
use Rattle.audit_check.specs.declared.answer.Audit.TheVariants.{Yes, No}
use Rattle.audit_check.specs.Said.{IsAnswer}
use Rattle.audit_check.specs.Written.{IsJournalOf}
use Rattle.audit_mode.specs.Lines.{answer_line}
use Rattle.audit_mode.specs.Texts.{IsAuditedText}
use Rattle.audit_mode.specs.Words.{AuditParts}

-- what counts of a log's file: its first 268,435,457 bytes
abbrev pub log_front : List ℕ → List ℕ
log_front bytes = take 268435457 bytes

-- this answer is right for a text and no other is; the log of a run's journal is answered by yes
pub record IsOnlyAnswer (setup : Settings) (text : List ℕ) (answer : Audit) : Type 0 where
  pub said : IsAnswer setup text answer
  pub exact : (other : Audit) → IsAnswer setup text other → answer ≡ other
  pub runs : (journal : List Event) → IsJournalOf setup journal → text ≡ log_text journal
      → answer ≡ Yes (length (kept_events journal))

-- the answer is right for the one text of a log's file; where recovery finds records in the file, that is their lines
pub record IsAnswerOfBytes (setup : Settings) (bytes : List ℕ) (answer : Audit) : Type 0 where
  pub text : List ℕ
  pub audited : IsAuditedText bytes text
  pub one : (other : List ℕ) → IsAuditedText bytes other → text ≡ other
  pub recovered : (records : List (List ℕ)) → HasRecords bytes records → text ≡ concat records
  pub answered : IsOnlyAnswer setup text answer

-- the answer is right for a log's file, which is there
abbrev pub IsAnswerOf : Settings → Option (List ℕ) → Audit → Type 0
IsAnswerOf setup None answer = ⊥
IsAnswerOf setup (Some bytes) answer = IsAnswerOfBytes setup (log_front bytes) answer

-- the files, if they report, spell a setup, and the answer is right for the log
pub record IsAnswered (contents : Option Contents) (parts : AuditParts) (answer : Audit) : Type 0 where
  pub setup : Settings
  pub spelled : IsSetupIn contents parts.setup setup
  pub answer_of : IfSome contents (λ files. IsAnswerOf setup (files parts.log) answer)

-- the files spell a setup, and there is no log, if the files report
pub record IsLogMissing (contents : Option Contents) (parts : AuditParts) : Type 0 where
  pub setup : Settings
  pub spelled : IsSetupIn contents parts.setup setup
  pub missing : IfSome contents (λ files. files parts.log ≡ None)

-- why there is no answer: a read failed, memory ran out, the setup is missing or refused, or the log is missing
abbrev pub IsFileTrouble : Option Contents → AuditParts → Type 0 → Trouble → Type 0
IsFileTrouble contents parts ReadFailed (troubles.Missing kinds.Log) = IsLogMissing contents parts
IsFileTrouble contents parts ReadFailed trouble = IsUnreadSetup contents parts.setup ReadFailed trouble

-- the same where the setup was read
abbrev pub IsLogTrouble : Option Contents → List ℕ → Type 0 → Trouble → Type 0
IsLogTrouble contents name ReadFailed troubles.ReadFailed = ReadFailed
IsLogTrouble contents name ReadFailed (troubles.Missing kinds.Log) = IfSome contents (λ files. files name ≡ None)
IsLogTrouble contents name ReadFailed troubles.OutOfMemory = Unit {0}
IsLogTrouble contents name ReadFailed _ = ⊥

-- what each end of `audit` means: the answer was sent, whole or in part, or there is none and nothing was sent
abbrev pub IsOutcome : AuditParts → Option Contents → Option Link → Option Link → Type 0 → Type 0
    → Result Audit Trouble → Type 0
IsOutcome parts contents before after ReadFailed EndsFailed (Ok answer) =
    IsAnswered contents parts answer × Goes (Exchanged [] (answer_line answer)) before after
IsOutcome parts contents before after ReadFailed EndsFailed (Err troubles.EndsFailed) =
    EndsFailed × ((answer : Audit) × IsAnswered contents parts answer × SendsPart (answer_line answer) before after)
IsOutcome parts contents before after ReadFailed EndsFailed (Err trouble) =
    IsFileTrouble contents parts ReadFailed trouble × (after ≡ before)

-- whether the mode ended before its line
abbrev pub ends_before_line : Result Audit Trouble → Bool
ends_before_line (Ok answer) = false
ends_before_line (Err troubles.EndsFailed) = false
ends_before_line (Err _) = true

-- the exit status of each answer: 0 for yes, 14 for no
abbrev pub answer_status : Audit → ℕ
answer_status (Yes events) = 0
answer_status (No place why) = 14

-- the exit status of the mode `audit`
abbrev pub audit_status : Result Audit Trouble → ℕ
audit_status (Ok answer) = answer_status answer
audit_status (Err trouble) = trouble_status trouble
