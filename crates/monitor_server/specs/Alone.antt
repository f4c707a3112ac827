-- Believed: what is done without threads.
use Rattle.std.specs.Prelude.{◌≡◌, ◌≢◌, ◌⊎◌, ℕ, Bool, true, false, List, Option, None, is_some}
use Rattle.info_hooks.specs.declared.key.Key.{Key}
use Rattle.outside.specs.Files.{Contents, SameFiles}
use Rattle.otp_mode.specs.Command.{command_parts}
use Rattle.child_mode.specs.Commands.{parts_of}
use Rattle.audit_mode.specs.Commands as audits
use Rattle.otp_extended.specs.Commands as renewals
use Rattle.recover_mode.specs.Commands as recoveries
use Rattle.enrol_mode.specs.Command as enrolments
use Rattle.monitor_server.specs.declared.command.AloneCommand.{AloneCommand}
use Rattle.monitor_server.specs.declared.command.AloneCommand.TheVariants as alone
use Rattle.monitor_server.specs.declared.command.Unread.{Unread}
use Rattle.monitor_server.specs.declared.command.Unread.TheVariants as unread
use Rattle.monitor_server.specs.declared.report.Detail.TheVariants.{Nothing}
use Rattle.monitor_server.specs.declared.report.Answer.{Answer}
use Rattle.monitor_server.specs.Around.{FilesGo, SidesNow, only_answer, only_sides}
use Rattle.monitor_server.specs.Commands.{asks_drill, asks_serve}
use Rattle.monitor_server.specs.Modes.{AuditRan, CheckRan, ChildRan, EnrolRan, PasswordRan, RecoverRan, RenewRan}
use Rattle.monitor_server.specs.Whole.{Whole}

-- what comes of words that were not read
abbrev pub unread_answer : Unread → Answer
unread_answer unread.NoCommand = record { status = 2; detail = Nothing }
unread_answer unread.OutOfMemory = record { status = 9; detail = Nothing }

-- ---- one command

-- the command's mode ran, and this is its answer
abbrev pub IsRunOf : {F E : Type 0} → AloneCommand → List Key → (F → Option Contents) → SidesNow F E → SidesNow F E
    → Answer → Type 0
IsRunOf (alone.Password command) forms contents before after answer =
    PasswordRan (command_parts command) contents before after answer
IsRunOf (alone.Check setup) forms contents before after answer =
    CheckRan forms setup.now contents before after answer
IsRunOf (alone.Child command) forms contents before after answer =
    ChildRan (parts_of command) before.ends after.ends answer.status × (answer.detail ≡ Nothing)
IsRunOf (alone.Audit command) forms contents before after answer =
    AuditRan (audits.command_parts command) contents before after answer
IsRunOf (alone.Renew command) forms contents before after answer =
    RenewRan (renewals.command_parts command) contents before after answer
IsRunOf (alone.Recover command) forms contents before after answer =
    RecoverRan (recoveries.command_parts command) contents before after answer
IsRunOf (alone.Enrol command) forms contents before after answer =
    EnrolRan (enrolments.command_parts command) before.ends after.ends answer.status × (answer.detail ≡ Nothing)

-- commands that read a file
abbrev pub reads_files : AloneCommand → Bool
reads_files (alone.Password command) = is_some (command_parts command).list
reads_files (alone.Child command) = false
reads_files (alone.Enrol command) = false
reads_files _ = true

-- commands that may write one
abbrev pub writes_files : AloneCommand → Bool
writes_files (alone.Renew command) = true
writes_files (alone.Recover command) = true
writes_files _ = false

-- a command that says what is wrong with a setup
abbrev pub says_findings : AloneCommand → Bool
says_findings (alone.Check setup) = true
says_findings _ = false

-- a command that may be out of memory after its input
abbrev pub takes_input_first : AloneCommand → Bool
takes_input_first (alone.Renew command) = true
takes_input_first (alone.Enrol command) = true
takes_input_first _ = false

-- what a command has no use for it leaves as it was
pub record SparesRest {F E : Type 0} (command : AloneCommand) (contents : F → Option Contents)
    (before after : SidesNow F E) (status : ℕ) : Type 0 where
  pub unread : reads_files command ≡ false → after.files ≡ before.files
  pub unwritten : writes_files command ≡ false → FilesGo SameFiles contents before.files after.files
  pub silent : (status ≡ 3) ⊎ (status ≡ 9) × (takes_input_first command ≡ false) → after.ends ≡ before.ends
  pub unprinted : says_findings command ≡ false → (status ≡ 4) ⊎ (status ≡ 5) ⊎ (status ≡ 13)
      → after.ends ≡ before.ends

-- ---- all words

-- all that the top call promises (`Whole`), of a call that has no site, no log and no posts
abbrev pub IsDoneAlone : {F E : Type 0} → List (List ℕ) → List Key → (F → Option Contents) → SidesNow F E
    → SidesNow F E → Answer → Type 0
IsDoneAlone words forms contents before after answer =
    Whole words forms contents (only_sides before) (only_sides after) (only_answer answer)

-- the command line asks for `serve` or `drill`, which need threads, and nothing was done
pub record NeedsThreads {F E : Type 0} (words : List (List ℕ)) (before after : SidesNow F E) : Type 0 where
  pub asks : (asks_serve words ≢ None) ⊎ (asks_drill words ≢ None)
  pub same : after ≡ before
