-- Believed: the words of the commands.
use Rattle.std.specs.Prelude.{◌≡◌, ◌≢◌, ◌⊎◌, ℕ, List, Option, Some, None, option_and_then, Result, Ok, Err}
use Rattle.command_line.specs.Words.{words_without_hyphen}
use Rattle.otp_mode.specs.Command.{command_parts}
use Rattle.otp_mode.specs.Words.{OtpParts, otp_command}
use Rattle.check_mode.specs.Words.{check_command}
use Rattle.child_mode.specs.Commands.{parts_of}
use Rattle.child_mode.specs.Words.{ChildParts, child_command}
use Rattle.audit_mode.specs.Commands as audits
use Rattle.audit_mode.specs.Words.{AuditParts, audit_command}
use Rattle.drill_mode.specs.Words.{drill_command}
use Rattle.enrol_mode.specs.Command as enrolments
use Rattle.enrol_mode.specs.Words.{EnrolParts, enrol_command}
use Rattle.otp_extended.specs.Commands as renewals
use Rattle.otp_extended.specs.Commands.{RenewParts, renew_command}
use Rattle.recover_mode.specs.Commands as recoveries
use Rattle.recover_mode.specs.Words.{RecoverParts, recover_command}
use Rattle.serve_mode.specs.Commands.{source_of}
use Rattle.serve_mode.specs.Words.{Source, serve_command}
use Rattle.monitor_server.specs.declared.command.AloneCommand.{AloneCommand}
use Rattle.monitor_server.specs.declared.command.AloneCommand.TheVariants as alone
use Rattle.monitor_server.specs.declared.command.Command.{Command}
use Rattle.monitor_server.specs.declared.command.Command.TheVariants as commands
use Rattle.monitor_server.specs.declared.command.Unread.{Unread}
use Rattle.monitor_server.specs.declared.command.Unread.TheVariants as unread

-- what the command line asks of `serve`, if no word begins with a hyphen
abbrev pub asks_serve : List (List ℕ) → Option Source
asks_serve words = option_and_then serve_command (words_without_hyphen words)

-- what the command line asks of `otp`, if no word begins with a hyphen
abbrev pub asks_otp : List (List ℕ) → Option OtpParts
asks_otp words = option_and_then otp_command (words_without_hyphen words)

-- the setup's file that the command line gives to `check`, if no word begins with a hyphen
abbrev pub asks_check : List (List ℕ) → Option (List ℕ)
asks_check words = option_and_then check_command (words_without_hyphen words)

-- which child the command line asks for, and its session, if no word begins with a hyphen
abbrev pub asks_child : List (List ℕ) → Option ChildParts
asks_child words = option_and_then child_command (words_without_hyphen words)

-- the setup and the log that the command line gives to `audit`, if no word begins with a hyphen
abbrev pub asks_audit : List (List ℕ) → Option AuditParts
asks_audit words = option_and_then audit_command (words_without_hyphen words)

-- the setup, the user and perhaps the log that the command line gives to `renew`, if no word begins with a hyphen
abbrev pub asks_renew : List (List ℕ) → Option RenewParts
asks_renew words = option_and_then renew_command (words_without_hyphen words)

-- the number of the drill that the command line asks for, if no word begins with a hyphen
abbrev pub asks_drill : List (List ℕ) → Option ℕ
asks_drill words = option_and_then drill_command (words_without_hyphen words)

-- the setup and the durable log that the command line gives to `recover`, if no word begins with a hyphen
abbrev pub asks_recover : List (List ℕ) → Option RecoverParts
asks_recover words = option_and_then recover_command (words_without_hyphen words)

-- the account that the command line asks `enrol` for, if no word begins with a hyphen
abbrev pub asks_enrol : List (List ℕ) → Option EnrolParts
asks_enrol words = option_and_then enrol_command (words_without_hyphen words)

-- a command line is a command: one of the modes `serve`, `otp`, `check`, `audit`, `renew`, `drill`, `recover`, `enrol`
-- or a child's
abbrev pub IsCommand : List (List ℕ) → Type 0
IsCommand words =
    ((source : Source) × (asks_serve words ≡ Some source))
    ⊎ ((parts : OtpParts) × (asks_otp words ≡ Some parts))
    ⊎ ((setup : List ℕ) × (asks_check words ≡ Some setup))
    ⊎ ((parts : ChildParts) × (asks_child words ≡ Some parts))
    ⊎ ((parts : AuditParts) × (asks_audit words ≡ Some parts))
    ⊎ ((parts : RenewParts) × (asks_renew words ≡ Some parts))
    ⊎ ((number : ℕ) × (asks_drill words ≡ Some number))
    ⊎ ((parts : RecoverParts) × (asks_recover words ≡ Some parts))
    ⊎ ((parts : EnrolParts) × (asks_enrol words ≡ Some parts))

-- what a mode's word and the words after it are read as that is done without threads
abbrev pub IsMeantAlone : List (List ℕ) → Option AloneCommand → Type 0
IsMeantAlone words (Some (alone.Password command)) = otp_command words ≡ Some (command_parts command)
IsMeantAlone words (Some (alone.Check setup)) = check_command words ≡ Some setup.now
IsMeantAlone words (Some (alone.Child command)) = child_command words ≡ Some (parts_of command)
IsMeantAlone words (Some (alone.Audit command)) = audit_command words ≡ Some (audits.command_parts command)
IsMeantAlone words (Some (alone.Renew command)) = renew_command words ≡ Some (renewals.command_parts command)
IsMeantAlone words (Some (alone.Recover command)) = recover_command words ≡ Some (recoveries.command_parts command)
IsMeantAlone words (Some (alone.Enrol command)) = enrol_command words ≡ Some (enrolments.command_parts command)
IsMeantAlone words None = (otp_command words ≡ None) × (check_command words ≡ None) × (child_command words ≡ None)
    × (audit_command words ≡ None) × (renew_command words ≡ None) × (recover_command words ≡ None)
    × (enrol_command words ≡ None)

-- what a mode's word and the words after it are read as
abbrev pub IsMeant : List (List ℕ) → Option Command → Type 0
IsMeant words (Some (commands.Serve command)) = serve_command words ≡ Some (source_of command)
IsMeant words (Some (commands.Drill number)) = drill_command words ≡ Some number
IsMeant words (Some (commands.Alone command)) = IsMeantAlone words (Some command)
IsMeant words None = (serve_command words ≡ None) × (drill_command words ≡ None) × IsMeantAlone words None

-- what words that ask for this are
abbrev pub AsksAlone : List (List ℕ) → AloneCommand → Type 0
AsksAlone words (alone.Password command) = asks_otp words ≡ Some (command_parts command)
AsksAlone words (alone.Check setup) = asks_check words ≡ Some setup.now
AsksAlone words (alone.Child command) = asks_child words ≡ Some (parts_of command)
AsksAlone words (alone.Audit command) = asks_audit words ≡ Some (audits.command_parts command)
AsksAlone words (alone.Renew command) = asks_renew words ≡ Some (renewals.command_parts command)
AsksAlone words (alone.Recover command) = asks_recover words ≡ Some (recoveries.command_parts command)
AsksAlone words (alone.Enrol command) = asks_enrol words ≡ Some (enrolments.command_parts command)

-- what the words of a command line are read as; out of memory only where none begins with a hyphen
abbrev pub IsReading : List (List ℕ) → Result Command Unread → Type 0
IsReading words (Ok (commands.Serve command)) = asks_serve words ≡ Some (source_of command)
IsReading words (Ok (commands.Drill number)) = asks_drill words ≡ Some number
IsReading words (Ok (commands.Alone command)) = AsksAlone words command
IsReading words (Err unread.NoCommand) = IsCommand words → ⊥
IsReading words (Err unread.OutOfMemory) = words_without_hyphen words ≢ None
