-- Believed: what the mode `renew` came to, and why.
use Rattle.std.specs.Prelude.{◌≡◌, ◌≢◌, ℕ, List, ◌∷◌, Option, Result, Ok, Err}
use Rattle.std.specs.Option.{option_to_list}
use Rattle.outside.specs.Files.{Contents, SameFiles}
use Rattle.outside.specs.Link.{Link}
use Rattle.outside.specs.Told.{Goes}
use Rattle.otp_extended.specs.declared.renewal.Renewed.{Renewed}
use Rattle.otp_extended.specs.Commands.{RenewParts}
use Rattle.otp_mode.specs.Outcome.{OnlyReceived}
use Rattle.trouble.specs.declared.trouble.Trouble.{Trouble}
use Rattle.trouble.specs.declared.trouble.Trouble.TheVariants as troubles
use Rattle.renew_mode.specs.declared.basis.Basis.{Basis}
use Rattle.renew_mode.specs.Bases.{IsReady, IsUnready}
use Rattle.renew_mode.specs.Renewing.{IsRenewing}

-- no setup or word list was read, or the log isn't fresh; nothing was received, sent or written
pub record IsUnread (parts : RenewParts) (old new : Option Contents) (before after : Option Link) (ReadFailed : Type 0)
    (trouble : Trouble) : Type 0 where
  pub why : IsUnready parts new ReadFailed trouble
  pub files : Goes SameFiles old new
  pub ends : after ≡ before

-- the files, as they stood before, hold a setup, its word list and a fresh log, if one is named, and this came of the
-- response
pub record IsRead (parts : RenewParts) (old new : Option Contents) (before after : Option Link)
    (ReplaceFailed EndsFailed : Type 0) (result : Result Renewed Trouble) : Type 0 where
  pub basis : Basis
  pub stood : Goes (λ files _. IsReady parts basis files) old new
  pub renewing : IsRenewing parts basis old new before after ReplaceFailed EndsFailed result

-- what each end of `renew` means: the renewal was written and sent, or why not; if memory ran out, nothing was written
-- or sent
abbrev pub IsOutcome : RenewParts → Option Contents → Option Contents → Option Link → Option Link → Type 0 → Type 0
    → Type 0 → Result Renewed Trouble → Type 0
IsOutcome parts old new before after ReadFailed ReplaceFailed EndsFailed (Ok renewed) =
    IsRead parts old new before after ReplaceFailed EndsFailed (Ok renewed)
IsOutcome parts old new before after ReadFailed ReplaceFailed EndsFailed (Err (troubles.ResponseRefused fault)) =
    IsRead parts old new before after ReplaceFailed EndsFailed (Err (troubles.ResponseRefused fault))
IsOutcome parts old new before after ReadFailed ReplaceFailed EndsFailed (Err (troubles.NoRenewal fault)) =
    IsRead parts old new before after ReplaceFailed EndsFailed (Err (troubles.NoRenewal fault))
IsOutcome parts old new before after ReadFailed ReplaceFailed EndsFailed (Err troubles.ReplaceFailed) =
    IsRead parts old new before after ReplaceFailed EndsFailed (Err troubles.ReplaceFailed)
IsOutcome parts old new before after ReadFailed ReplaceFailed EndsFailed (Err troubles.EndsFailed) =
    IsRead parts old new before after ReplaceFailed EndsFailed (Err troubles.EndsFailed)
IsOutcome parts old new before after ReadFailed ReplaceFailed EndsFailed (Err troubles.OutOfMemory) =
    Goes SameFiles old new × Goes OnlyReceived before after
IsOutcome parts old new before after ReadFailed ReplaceFailed EndsFailed (Err trouble) =
    IsUnread parts old new before after ReadFailed trouble

-- every file but the one of this name is as it was
pub record Spares (name : List ℕ) (before after : Contents) : Type 0 where
  pub others : (other : List ℕ) → other ≢ name → after other ≡ before other

-- the files that `renew` is given
abbrev pub names_of : RenewParts → List (List ℕ)
names_of parts = parts.setup ∷ option_to_list parts.log
