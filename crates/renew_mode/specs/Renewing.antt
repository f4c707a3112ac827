-- Believed: what comes of a response where the setup and the word list were read.
use Rattle.std.specs.Prelude.{◌≡◌, ◌⊎◌, [], Option, Result, Ok, Err}
use Rattle.outside.specs.Files.{Contents, MayBeReplaced, Replaced, SameFiles}
use Rattle.outside.specs.Link.{Exchanged, Link, SendsPart}
use Rattle.outside.specs.Told.{Goes}
use Rattle.request_catalogue.specs.declared.texts.Name.{Name}
use Rattle.request_catalogue.specs.TextBytes.{name_bytes}
use Rattle.account_file.specs.Entries.{entries_of}
use Rattle.account_writer.specs.Written.{IsFileOf}
use Rattle.setup_reading.specs.Read.{judged_setup}
use Rattle.otp_extended.specs.declared.renewal.Renewed.{Renewed}
use Rattle.otp_extended.specs.declared.run.Renewal.{Renewal}
use Rattle.otp_extended.specs.Commands.{RenewParts, renewed_line}
use Rattle.otp_mode.specs.Outcome.{OnlyReceived}
use Rattle.otp_extended.specs.Outcome as renewals
use Rattle.trouble.specs.declared.trouble.Trouble.{Trouble}
use Rattle.trouble.specs.declared.trouble.Trouble.TheVariants as troubles
use Rattle.renew_mode.specs.declared.basis.Basis.{Basis}
use Rattle.renew_mode.specs.declared.texts.Texts.{Texts}

-- what `renew` writes and sends: the file of the new setup, and a line with the new sequence
pub record AreTexts (parts : RenewParts) (renewal : Renewal) (texts : Texts) : Type 0 where
  pub file : texts.file ≡ parts.setup
  pub spelled : judged_setup texts.bytes.items ≡ Ok (entries_of renewal.setup)
  pub written : IsFileOf renewal.setup texts.bytes.items
  pub line : texts.line.items ≡ renewed_line parts.user renewal.renewed.sequence

-- what came of the input's first line as a response of the user; nothing was sent
pub record ComesOf (parts : RenewParts) (basis : Basis) (before after : Option Link) (EndsFailed : Type 0)
    (result : Result Renewal Trouble) : Type 0 where
  pub user : Name
  pub named : name_bytes user ≡ parts.user
  pub comes : renewals.IsOutcome basis.setup basis.dictionary user before after EndsFailed result

-- the response was received and renews the account, and this is to be written and sent
pub record IsMade (parts : RenewParts) (basis : Basis) (renewed : Renewed) (texts : Texts)
    (before between : Option Link) : Type 0 where
  pub renewal : Renewal
  pub renewed_is : renewed ≡ renewal.renewed
  pub received : ComesOf parts basis before between ⊥ (Ok renewal)
  pub texts_are : AreTexts parts renewal texts

-- the setup file was replaced and then the line was sent, or which of these failed
abbrev pub IsPut : Texts → Option Contents → Option Contents → Option Link → Option Link → Type 0 → Type 0
    → Result (Unit {0}) Trouble → Type 0
IsPut texts old new before after ReplaceFailed EndsFailed (Ok _) =
    Goes (Replaced texts.file texts.bytes.items) old new × Goes (Exchanged [] texts.line.items) before after
IsPut texts old new before after ReplaceFailed EndsFailed (Err troubles.ReplaceFailed) =
    ReplaceFailed × Goes (MayBeReplaced texts.file texts.bytes.items) old new × (after ≡ before)
IsPut texts old new before after ReplaceFailed EndsFailed (Err troubles.EndsFailed) =
    EndsFailed × Goes (Replaced texts.file texts.bytes.items) old new × SendsPart texts.line.items before after
IsPut texts old new before after ReplaceFailed EndsFailed (Err _) = ⊥

-- the response was received and renews the account, but this failed of the writing and the sending
abbrev pub IsUnput : RenewParts → Basis → Option Contents → Option Contents → Option Link → Option Link → Type 0
    → Type 0 → Trouble → Type 0
IsUnput parts basis old new before after ReplaceFailed EndsFailed trouble =
    (texts : Texts) × (between : Option Link) × (renewed : Renewed) × IsMade parts basis renewed texts before between
    × IsPut texts old new between after ReplaceFailed EndsFailed (Err trouble)

-- what came of a response: it was received and the renewal put in place, or which of these failed
abbrev pub IsRenewing : RenewParts → Basis → Option Contents → Option Contents → Option Link → Option Link → Type 0
    → Type 0 → Result Renewed Trouble → Type 0
IsRenewing parts basis old new before after ReplaceFailed EndsFailed (Ok renewed) =
    (texts : Texts) × (between : Option Link) × IsMade parts basis renewed texts before between
    × IsPut texts old new between after ReplaceFailed EndsFailed (Ok tt)
IsRenewing parts basis old new before after ReplaceFailed EndsFailed (Err troubles.OutOfMemory) =
    Goes OnlyReceived before after × Goes SameFiles old new
IsRenewing parts basis old new before after ReplaceFailed EndsFailed (Err troubles.ReplaceFailed) =
    IsUnput parts basis old new before after ReplaceFailed EndsFailed troubles.ReplaceFailed
-- the ends failed at the input, or at the line once the file was written
IsRenewing parts basis old new before after ReplaceFailed EndsFailed (Err troubles.EndsFailed) =
    ComesOf parts basis before after EndsFailed (Err troubles.EndsFailed) × Goes SameFiles old new
    ⊎ IsUnput parts basis old new before after ReplaceFailed EndsFailed troubles.EndsFailed
IsRenewing parts basis old new before after ReplaceFailed EndsFailed (Err trouble) =
    ComesOf parts basis before after EndsFailed (Err trouble) × Goes SameFiles old new
