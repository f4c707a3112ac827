-- What came of the mode, by what came of the word list and of the printing.
use Rattle.std.proofs.Common.{◌≡◌, List, ℕ, Option, Some, Ok, Err, Result, inl}
use Rattle.outside.specs.Files.{Contents}
use Rattle.outside.specs.Link.{Link}
use Rattle.file_front.specs.declared.list.ListError.{ListError}
use Rattle.file_front.specs.declared.list.ListError.TheVariants as errors
use Rattle.file_front.specs.Lists.{IsListFault}
use Rattle.trouble.specs.declared.trouble.Trouble.{Trouble}
use Rattle.trouble.specs.declared.trouble.Trouble.TheVariants as troubles
use Rattle.trouble.specs.Reading.{trouble_of_list}
use Rattle.trouble.proofs.Unread.{list_unread}
use Rattle.otp_mode.specs.Outcome.{HasWords, IsOutcome, IsPrinting, IsUnlisted}
use Rattle.otp_mode.specs.Inner.{IsPhraseTrouble}
use Rattle.otp_mode.specs.Words.{OtpParts}

-- a phrase that was not received was not printed
pub IsPrinting-phrase : (parts : OtpParts) (words : Option (List (List ℕ))) (before after : Option Link) (EndsFailed : Type 0) (trouble : Trouble) → IsPhraseTrouble before after EndsFailed trouble → IsPrinting parts words before after EndsFailed (Err trouble)
IsPrinting-phrase parts words before after E troubles.EndsFailed h = (h.0, inl h.1)
IsPrinting-phrase parts words before after E troubles.PhraseRefused h = h
IsPrinting-phrase parts words before after E troubles.OutOfMemory h = h
IsPrinting-phrase parts words before after E troubles.ReadFailed h = h
IsPrinting-phrase parts words before after E (troubles.Missing _) h = h
IsPrinting-phrase parts words before after E (troubles.SetupRefused _) h = h
IsPrinting-phrase parts words before after E (troubles.WordsRefused _) h = h
IsPrinting-phrase parts words before after E (troubles.LogRefused _) h = h
IsPrinting-phrase parts words before after E (troubles.Serving _) h = h
IsPrinting-phrase parts words before after E (troubles.ResponseRefused _) h = h
IsPrinting-phrase parts words before after E (troubles.NoRenewal _) h = h
IsPrinting-phrase parts words before after E troubles.ReplaceFailed h = h

-- a word list that was not taken ends the mode
unlisted : (contents : Option Contents) (list : Option (List ℕ)) (name : List ℕ) (ReadFailed : Type 0) (error : ListError) → list ≡ Some name → IsListFault contents name ReadFailed error → IsUnlisted contents list ReadFailed (trouble_of_list error)
unlisted contents list name R error named h = rw named (list_unread contents name R error h)

pub IsOutcome-list : (parts : OtpParts) (contents : Option Contents) (before after : Option Link) (ReadFailed EndsFailed : Type 0) (name : List ℕ) (error : ListError) → parts.list ≡ Some name → IsListFault contents name ReadFailed error → after ≡ before → IsOutcome parts contents before after ReadFailed EndsFailed (Err (trouble_of_list error))
IsOutcome-list parts contents before after R E name errors.Failed named h same = (unlisted contents parts.list name R errors.Failed named h, same)
IsOutcome-list parts contents before after R E name errors.OutOfMemory named h same = (unlisted contents parts.list name R errors.OutOfMemory named h, same)
IsOutcome-list parts contents before after R E name errors.Missing named h same = (unlisted contents parts.list name R errors.Missing named h, same)
IsOutcome-list parts contents before after R E name (errors.Refused fault) named h same = (unlisted contents parts.list name R (errors.Refused fault) named h, same)

-- the printing is all that came of it, where the word list was taken
pub IsOutcome-printing : (parts : OtpParts) (contents : Option Contents) (words : Option (List (List ℕ))) (before after : Option Link) (ReadFailed EndsFailed : Type 0) (result : Result (Unit {0}) Trouble) → HasWords contents parts.list words → IsPrinting parts words before after EndsFailed result → IsOutcome parts contents before after ReadFailed EndsFailed result
IsOutcome-printing parts contents words before after R E (Ok _) has h = (words, has, h)
IsOutcome-printing parts contents words before after R E (Err troubles.EndsFailed) has h = (h.0, (words, has, h.1))
IsOutcome-printing parts contents words before after R E (Err troubles.PhraseRefused) has h = ((words, has), h)
IsOutcome-printing parts contents words before after R E (Err troubles.OutOfMemory) has h = absurd h
IsOutcome-printing parts contents words before after R E (Err troubles.ReadFailed) has h = absurd h
IsOutcome-printing parts contents words before after R E (Err (troubles.Missing _)) has h = absurd h
IsOutcome-printing parts contents words before after R E (Err (troubles.SetupRefused _)) has h = absurd h
IsOutcome-printing parts contents words before after R E (Err (troubles.WordsRefused _)) has h = absurd h
IsOutcome-printing parts contents words before after R E (Err (troubles.LogRefused _)) has h = absurd h
IsOutcome-printing parts contents words before after R E (Err (troubles.Serving _)) has h = absurd h
IsOutcome-printing parts contents words before after R E (Err (troubles.ResponseRefused _)) has h = absurd h
IsOutcome-printing parts contents words before after R E (Err (troubles.NoRenewal _)) has h = absurd h
IsOutcome-printing parts contents words before after R E (Err troubles.ReplaceFailed) has h = absurd h
