-- Believed: when the mode `otp` has to end so.
use Rattle.std.specs.Prelude.{◌≡◌, ◌⊎◌, ℕ, true, List, Option, Some, None, Result, Ok, Err}
use Rattle.outside.specs.Files.{Contents}
use Rattle.outside.specs.Link.{Link}
use Rattle.otp_words.specs.declared.fault.DictFault.{DictFault}
use Rattle.otp_words.specs.Lists.{dictionary_of}
use Rattle.file_front.specs.Lists.{list_text}
use Rattle.trouble.specs.declared.trouble.Trouble.{Trouble}
use Rattle.trouble.specs.declared.trouble.Trouble.TheVariants as troubles
use Rattle.otp_mode.specs.Outcome.{ends_at_list}
use Rattle.otp_mode.specs.Phrase.{phrase_of}
use Rattle.otp_mode.specs.Words.{OtpParts}

-- the files report, and the named word list is judged so
pub record IsJudged (contents : Option Contents) (name : List ℕ) (judgement : Result (List (List ℕ)) DictFault) : Type
    0 where
  pub files : Contents
  pub told : contents ≡ Some files
  pub text : List ℕ
  pub there : list_text (files name) ≡ Some text
  pub judged : dictionary_of text ≡ judgement

-- the ends report, and the input has this phrase, or none
pub record HasPhrase (before after : Option Link) (phrase : Option (List ℕ)) : Type 0 where
  pub first : Link
  pub last : Link
  pub told : before ≡ Some first
  pub still_told : after ≡ Some last
  pub has : phrase_of first.left ≡ phrase

-- the word list, if one is named, is there and accepted
abbrev pub ListIsGood : Option Contents → Option (List ℕ) → Type 0
ListIsGood contents None = Unit {0}
ListIsGood contents (Some name) = (words : List (List ℕ)) × IsJudged contents name (Ok words)

-- a bad list or a missing phrase is refused, unless something fails first; otherwise `otp` succeeds, unless something
-- fails or memory runs out
pub record IsExact (parts : OtpParts) (contents : Option Contents) (before after : Option Link)
    (ReadFailed EndsFailed : Type 0) (result : Result (Unit {0}) Trouble) : Type 0 where
  pub list_refused : (name : List ℕ) (fault : DictFault) → parts.list ≡ Some name → IsJudged contents name (Err fault)
      → (result ≡ Err (troubles.WordsRefused fault)) ⊎ (result ≡ Err troubles.ReadFailed)
      ⊎ (result ≡ Err troubles.OutOfMemory)
  pub phrase_refused : HasPhrase before after None → (result ≡ Err troubles.PhraseRefused)
      ⊎ (result ≡ Err troubles.EndsFailed) ⊎ (ends_at_list result ≡ true)
  pub complete : (phrase : List ℕ) → ListIsGood contents parts.list → HasPhrase before after (Some phrase)
      → (ReadFailed → ⊥) → (EndsFailed → ⊥) → (result ≡ Ok tt) ⊎ (result ≡ Err troubles.OutOfMemory)
