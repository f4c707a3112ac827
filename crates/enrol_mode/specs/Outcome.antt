-- Believed: what the mode `enrol` came to, and why.
use Rattle.std.specs.Prelude.{◌≡◌, ◌⊎◌, ℕ, ◌≤◌, List, [], length, take, Option, Some, Result, Ok, Err}
use Rattle.outside.specs.Link.{Exchanged, Link}
use Rattle.outside.specs.Told.{Goes}
use Rattle.trouble.specs.declared.trouble.Trouble.{Trouble}
use Rattle.trouble.specs.declared.trouble.Trouble.TheVariants as troubles
use Rattle.otp_mode.specs.Outcome.{OnlyReceived, RefusedPhrase}
use Rattle.otp_mode.specs.Phrase.{phrase_of}
use Rattle.enrol_mode.specs.Accounts.{IsEnrolText}
use Rattle.enrol_mode.specs.Words.{EnrolParts}

-- a phrase was received, in at most 4,096 bytes, and exactly this was sent
pub record TookPhrase (phrase sent : List ℕ) (before after : Link) : Type 0 where
  pub accepted : phrase_of before.left ≡ Some phrase
  pub received : List ℕ
  pub few : length received ≤ 4096
  pub passed : Exchanged received sent before after

-- a phrase was received, and the text of its account was sent
pub record Printed (parts : EnrolParts) (before after : Link) : Type 0 where
  pub phrase : List ℕ
  pub text : List ℕ
  pub spells : IsEnrolText parts phrase text
  pub took : TookPhrase phrase text before after

-- a phrase was received, and some first part of its account's text was sent
pub record PrintedPart (parts : EnrolParts) (before after : Link) : Type 0 where
  pub phrase : List ℕ
  pub text : List ℕ
  pub spells : IsEnrolText parts phrase text
  pub count : ℕ
  pub took : TookPhrase phrase (take count text) before after

-- a phrase was received, and nothing was sent
pub record OnlyTook (before after : Link) : Type 0 where
  pub phrase : List ℕ
  pub took : TookPhrase phrase [] before after

-- what each end of `enrol` means: the account was printed, whole or in part, or nothing was sent
abbrev pub IsOutcome : EnrolParts → Option Link → Option Link → Type 0 → Result (Unit {0}) Trouble → Type 0
IsOutcome parts before after EndsFailed (Ok _) = Goes (Printed parts) before after
IsOutcome parts before after EndsFailed (Err troubles.OutOfMemory) = Goes OnlyTook before after
IsOutcome parts before after EndsFailed (Err troubles.EndsFailed) =
    EndsFailed × (Goes OnlyReceived before after ⊎ Goes (PrintedPart parts) before after)
IsOutcome parts before after EndsFailed (Err troubles.PhraseRefused) = Goes RefusedPhrase before after
IsOutcome parts before after EndsFailed (Err _) = ⊥
