-- Inner: why a log is refused, and what came of the writing of a renewal.
use Rattle.std.specs.Prelude.{◌≡◌, ℕ, List, Option, Some, IfSome, Result, Ok, Err}
use Rattle.fresh_log.specs.Fresh.{IsFresh}
use Rattle.otp_extended.specs.declared.renewal.Renewed.{Renewed}
use Rattle.otp_extended.specs.declared.run.Renewal.{Renewal}
use Rattle.otp_extended.specs.Commands.{RenewParts}
use Rattle.outside.specs.Files.{Contents}
use Rattle.outside.specs.Link.{Link}
use Rattle.trouble.specs.declared.trouble.LogFault.TheVariants as log_faults
use Rattle.trouble.specs.declared.trouble.Trouble.{Trouble}
use Rattle.trouble.specs.declared.trouble.Trouble.TheVariants as troubles
use Rattle.renew_mode.specs.declared.texts.Texts.{Texts}
use Rattle.renew_mode.specs.Renewing.{AreTexts, IsPut}

-- the texts of a renewal were made and put, or what failed of that; where memory ran out for them nothing was done
abbrev pub IsInstalling : RenewParts → Renewal → Option Contents → Option Contents → Option Link → Option Link → Type 0
    → Type 0 → Result Renewed Trouble → Type 0
IsInstalling parts renewal old new before after ReplaceFailed EndsFailed (Ok renewed) =
    (renewed ≡ renewal.renewed) × (texts : Texts) × AreTexts parts renewal texts × IsPut texts old new before after
    ReplaceFailed EndsFailed (Ok tt)
IsInstalling parts renewal old new before after ReplaceFailed EndsFailed (Err troubles.OutOfMemory) =
    (new ≡ old) × (after ≡ before)
IsInstalling parts renewal old new before after ReplaceFailed EndsFailed (Err trouble) =
    (texts : Texts) × AreTexts parts renewal texts × IsPut texts old new before after ReplaceFailed EndsFailed
    (Err trouble)

-- why a log is refused: it isn't fresh, its reading failed, or there was no memory for its name
abbrev pub IsLogRefused : Option (List ℕ) → Option Contents → Type 0 → Trouble → Type 0
IsLogRefused (Some log) contents ReadFailed (troubles.LogRefused log_faults.NotFresh) =
    IfSome contents (λ files. IsFresh (files log) → ⊥)
IsLogRefused (Some log) contents ReadFailed troubles.ReadFailed = ReadFailed
IsLogRefused (Some log) contents ReadFailed troubles.OutOfMemory = Unit {0}
IsLogRefused _ contents ReadFailed _ = ⊥
