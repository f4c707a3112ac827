-- Believed: what the mode `recover` came to, and why.
use Rattle.std.specs.Prelude.{◌≡◌, ◌≢◌, ℕ, List, Option, Result, Ok, Err}
use Rattle.outside.specs.Files.{Contents, SameFiles}
use Rattle.outside.specs.Link.{Link}
use Rattle.outside.specs.Told.{Goes}
use Rattle.policy_model.specs.Settings.{Settings}
use Rattle.trouble.specs.declared.trouble.LogFault.TheVariants as log_faults
use Rattle.trouble.specs.declared.trouble.Trouble.{Trouble}
use Rattle.trouble.specs.declared.trouble.Trouble.TheVariants as troubles
use Rattle.trouble.specs.Reading.{IsUnreadSetup}
use Rattle.recover_mode.specs.declared.line.Recovery.{Recovery}
use Rattle.recover_mode.specs.declared.texts.Texts.{Texts}
use Rattle.recover_mode.specs.Bases.{HasBasis}
use Rattle.recover_mode.specs.Recovering.{AreTexts, IsPut, IsRefused}
use Rattle.recover_mode.specs.Words.{RecoverParts}

-- no setup was read, or no image of the log; every file is as it was
pub record IsUnread (parts : RecoverParts) (old new : Option Contents) (ReadFailed : Type 0)
    (trouble : Trouble) : Type 0 where
  pub why : IsUnreadSetup new parts.setup ReadFailed trouble
  pub files : Goes SameFiles old new

-- the files hold a setup and a log that is refused by this number, and are as they were
pub record IsUnrecovered (parts : RecoverParts) (number : ℕ) (old new : Option Contents) : Type 0 where
  pub setup : Settings
  pub image : List ℕ
  pub stood : Goes (λ files _. HasBasis parts setup image files) old new
  pub refused : IsRefused setup image number
  pub files : Goes SameFiles old new

-- the files, as they stood before, hold a setup and a log that is recovered, and this came of writing and sending that
pub record IsRecovered (parts : RecoverParts) (old new : Option Contents) (before after : Option Link)
    (ReplaceFailed EndsFailed : Type 0) (result : Result Recovery Trouble) : Type 0 where
  pub setup : Settings
  pub image : List ℕ
  pub stood : Goes (λ files _. HasBasis parts setup image files) old new
  pub texts : Texts
  pub made : AreTexts parts setup image texts
  pub put : IsPut texts old new before after ReplaceFailed EndsFailed result

-- what each end of `recover` means: what was recovered is written and sent, or why not; where nothing is recovered
-- nothing changes
abbrev pub IsOutcome : RecoverParts → Option Contents → Option Contents → Option Link → Option Link → Type 0 → Type 0
    → Type 0 → Result Recovery Trouble → Type 0
IsOutcome parts old new before after ReadFailed ReplaceFailed EndsFailed (Ok recovery) =
    IsRecovered parts old new before after ReplaceFailed EndsFailed (Ok recovery)
IsOutcome parts old new before after ReadFailed ReplaceFailed EndsFailed (Err troubles.ReplaceFailed) =
    IsRecovered parts old new before after ReplaceFailed EndsFailed (Err troubles.ReplaceFailed)
IsOutcome parts old new before after ReadFailed ReplaceFailed EndsFailed (Err troubles.EndsFailed) =
    IsRecovered parts old new before after ReplaceFailed EndsFailed (Err troubles.EndsFailed)
IsOutcome parts old new before after ReadFailed _ _ (Err (troubles.LogRefused (log_faults.Record number))) =
    IsUnrecovered parts number old new × (after ≡ before)
IsOutcome parts old new before after ReadFailed ReplaceFailed EndsFailed (Err troubles.OutOfMemory) =
    Goes SameFiles old new × (after ≡ before)
IsOutcome parts old new before after ReadFailed ReplaceFailed EndsFailed (Err trouble) =
    IsUnread parts old new ReadFailed trouble × (after ≡ before)

-- every file but the setup's and the log's is as it was
pub record Spares (parts : RecoverParts) (before after : Contents) : Type 0 where
  pub others : (other : List ℕ) → other ≢ parts.setup → other ≢ parts.log → after other ≡ before other
