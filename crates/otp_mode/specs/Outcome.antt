-- Believed: what the mode `otp` came to, and why.
use Rattle.std.specs.Prelude.{◌≡◌, ◌⊎◌, ℕ, ◌≤◌, Bool, true, false, List, [], length, take, Option, Some, None, Result}
use Rattle.std.specs.Prelude.{Ok, Err}
use Rattle.outside.specs.Files.{Contents}
use Rattle.outside.specs.Link.{Exchanged, Link}
use Rattle.outside.specs.Told.{Goes}
use Rattle.file_front.specs.Lists.{IsJudgedSo}
use Rattle.trouble.specs.declared.trouble.Trouble.{Trouble}
use Rattle.trouble.specs.declared.trouble.Trouble.TheVariants as troubles
use Rattle.trouble.specs.Reading.{IsUnreadList}
use Rattle.otp_mode.specs.Output.{otp_text}
use Rattle.otp_mode.specs.Phrase.{phrase_of}
use Rattle.otp_mode.specs.Words.{OtpParts}

-- these are the words of the list that is named, if one is
abbrev pub HasWords : Option Contents → Option (List ℕ) → Option (List (List ℕ)) → Type 0
HasWords contents None None = Unit {0}
HasWords contents (Some name) (Some words) = IsJudgedSo contents name (Ok words)
HasWords contents _ _ = ⊥

-- why the word list that is named wasn't read
abbrev pub IsUnlisted : Option Contents → Option (List ℕ) → Type 0 → Trouble → Type 0
IsUnlisted contents None ReadFailed trouble = ⊥
IsUnlisted contents (Some name) ReadFailed trouble = IsUnreadList contents name ReadFailed trouble

-- a phrase was received, in at most 4,096 bytes, and the lines of its password were sent
pub record Printed (parts : OtpParts) (words : Option (List (List ℕ))) (before after : Link) : Type 0 where
  pub phrase : List ℕ
  pub accepted : phrase_of before.left ≡ Some phrase
  pub received : List ℕ
  pub few : length received ≤ 4096
  pub passed : Exchanged received (otp_text parts words phrase) before after

-- at most 4,096 bytes were received, they hold no pass phrase, and nothing was sent
pub record RefusedPhrase (before after : Link) : Type 0 where
  pub refused : phrase_of before.left ≡ None
  pub received : List ℕ
  pub few : length received ≤ 4096
  pub passed : Exchanged received [] before after

-- at most 4,096 bytes were received, and nothing was sent
pub record OnlyReceived (before after : Link) : Type 0 where
  pub received : List ℕ
  pub few : length received ≤ 4096
  pub passed : Exchanged received [] before after

-- a phrase was received, in at most 4,096 bytes, and some first part of its password's lines was sent
pub record PrintedPart (parts : OtpParts) (words : Option (List (List ℕ))) (before after : Link) : Type 0 where
  pub phrase : List ℕ
  pub accepted : phrase_of before.left ≡ Some phrase
  pub received : List ℕ
  pub few : length received ≤ 4096
  pub count : ℕ
  pub passed : Exchanged received (take count (otp_text parts words phrase)) before after

-- what came of a phrase and its password, with these words of a list
abbrev pub IsPrinting : OtpParts → Option (List (List ℕ)) → Option Link → Option Link → Type 0
    → Result (Unit {0}) Trouble → Type 0
IsPrinting parts words before after EndsFailed (Ok _) = Goes (Printed parts words) before after
IsPrinting parts words before after EndsFailed (Err troubles.EndsFailed) =
    EndsFailed × (Goes OnlyReceived before after ⊎ Goes (PrintedPart parts words) before after)
IsPrinting parts words before after EndsFailed (Err troubles.PhraseRefused) =
    Goes RefusedPhrase before after
IsPrinting parts words before after EndsFailed (Err _) = ⊥

-- what each end of `otp` means: the password was printed, whole or in part, or why not; at a bad list nothing is
-- received
abbrev pub IsOutcome : OtpParts → Option Contents → Option Link → Option Link → Type 0 → Type 0
    → Result (Unit {0}) Trouble → Type 0
IsOutcome parts contents before after ReadFailed EndsFailed (Ok _) =
    (words : Option (List (List ℕ))) × HasWords contents parts.list words × Goes (Printed parts words) before after
IsOutcome parts contents before after ReadFailed EndsFailed (Err troubles.EndsFailed) =
    EndsFailed × ((words : Option (List (List ℕ))) × HasWords contents parts.list words
    × (Goes OnlyReceived before after ⊎ Goes (PrintedPart parts words) before after))
IsOutcome parts contents before after ReadFailed EndsFailed (Err troubles.PhraseRefused) =
    ((words : Option (List (List ℕ))) × HasWords contents parts.list words) × Goes RefusedPhrase before after
IsOutcome parts contents before after ReadFailed EndsFailed (Err trouble) =
    IsUnlisted contents parts.list ReadFailed trouble × (after ≡ before)

-- the mode `otp` ended at the word list, before it asked for the phrase
abbrev pub ends_at_list : Result (Unit {0}) Trouble → Bool
ends_at_list (Ok _) = false
ends_at_list (Err troubles.EndsFailed) = false
ends_at_list (Err troubles.PhraseRefused) = false
ends_at_list (Err _) = true
