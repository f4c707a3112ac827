-- Inner: what the clauses of functions inside the crate cite: what is received before a password is printed.
use Rattle.std.specs.Prelude.{◌≡◌, ℕ, ◌≤◌, List, [], length, Option, Some}
use Rattle.outside.specs.Link.{Exchanged, Link}
use Rattle.outside.specs.Told.{Goes}
use Rattle.trouble.specs.declared.trouble.Trouble.{Trouble}
use Rattle.trouble.specs.declared.trouble.Trouble.TheVariants as troubles
use Rattle.otp_mode.specs.Outcome.{OnlyReceived, RefusedPhrase}
use Rattle.otp_mode.specs.Lines.{line_of}
use Rattle.otp_mode.specs.Phrase.{phrase_of}

-- these bytes were received, and they have the line that the whole input has
pub record ReceivedLine (received : List ℕ) (before after : Link) : Type 0 where
  pub passed : Exchanged received [] before after
  pub few : length received ≤ 4096
  pub enough : line_of before.left ≡ line_of received

-- the input has this phrase, and nothing was sent
pub record Accepted (phrase : List ℕ) (before after : Link) : Type 0 where
  pub accepted : phrase_of before.left ≡ Some phrase
  pub received : List ℕ
  pub few : length received ≤ 4096
  pub passed : Exchanged received [] before after

-- why no phrase was received
abbrev pub IsPhraseTrouble : Option Link → Option Link → Type 0 → Trouble → Type 0
IsPhraseTrouble before after EndsFailed troubles.EndsFailed = EndsFailed × Goes OnlyReceived before after
IsPhraseTrouble before after EndsFailed troubles.PhraseRefused = Goes RefusedPhrase before after
IsPhraseTrouble before after EndsFailed _ = ⊥
