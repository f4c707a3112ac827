-- A phrase was received, and then something of its account's text sent.
use Rattle.std.proofs.Common.{◌≡◌, ℕ, List, [], Option, Some, None, Err, take, append-nil, inl, subst, sym, ◌≤◌, arith}
use Rattle.outside.specs.Link.{Exchanged, Link, SendsPart}
use Rattle.outside.specs.Told.{Goes, Rose, next_count}
use Rattle.outside.proofs.Exchanges.{Exchanged-then}
use Rattle.outside.proofs.Told.{Goes-then}
use Rattle.trouble.specs.declared.trouble.Trouble.{Trouble}
use Rattle.trouble.specs.declared.trouble.Trouble.TheVariants as troubles
use Rattle.otp_mode.specs.Inner.{Accepted, IsPhraseTrouble}
use Rattle.enrol_mode.specs.Accounts.{IsEnrolText}
use Rattle.enrol_mode.specs.Outcome.{IsOutcome, OnlyTook, Printed, PrintedPart, TookPhrase}
use Rattle.enrol_mode.specs.Words.{EnrolParts}

took : (phrase sent : List ℕ) (a b c : Link) → Accepted phrase a b → Exchanged [] sent b c → TookPhrase phrase sent a c
took phrase sent a b c got passed = record {
  accepted = got.accepted;
  received = got.received;
  few = got.few;
  passed = subst (λ (r : List ℕ). Exchanged r sent a c) (append-nil got.received)
      (Exchanged-then got.received [] [] sent a b c got.passed passed);
}

-- the text of a phrase, under other names
pub spelled : (parts : EnrolParts) (phrase phrase' text text' : List ℕ) → phrase ≡ phrase' → text' ≡ text
    → IsEnrolText parts phrase text → IsEnrolText parts phrase' text'
spelled parts phrase phrase' text text' same same_text spells =
    subst (λ (p : List ℕ). IsEnrolText parts p text') same (subst (IsEnrolText parts phrase) (sym same_text) spells)

-- a count that rose after others
pub rose_after : (a b c : ℕ) → a ≤ b → c ≡ next_count b → Rose a c
rose_after a b c low is = record { rose = omega (arith, low, is) }

-- the whole text
pub outcome-printed : (parts : EnrolParts) (phrase text : List ℕ) (before between after : Option Link)
    → IsEnrolText parts phrase text → Goes (Accepted phrase) before between → Goes (Exchanged [] text) between after
    → Goes (Printed parts) before after
outcome-printed parts phrase text before between after spells =
    Goes-then (Accepted phrase) (Exchanged [] text) (Printed parts)
    (λ a b c got passed. record {
      phrase = phrase;
      text = text;
      spells = spells;
      took = took phrase text a b c got
          passed;
    }) before between after

-- a part of it
pub outcome-part : (parts : EnrolParts) (phrase text : List ℕ) (before between after : Option Link)
    → IsEnrolText parts phrase text → Goes (Accepted phrase) before between → SendsPart text between after
    → Goes (PrintedPart parts) before after
outcome-part parts phrase text before between after spells got sent =
    Goes-then (Accepted phrase) (Exchanged [] (take sent.0 text)) (PrintedPart parts)
    (λ a b c got passed. record {
      phrase = phrase;
      text = text;
      spells = spells;
      count = sent.0;
      took = took phrase
          (take sent.0 text) a b c got passed;
    }) before between after got sent.1

-- nothing
pub outcome-took : (phrase : List ℕ) (before after : Option Link) → Goes (Accepted phrase) before after
    → Goes OnlyTook before after
outcome-took phrase before None got = tt
outcome-took phrase None (Some after) got = got
outcome-took phrase (Some before) (Some after) got =
    record {
      phrase = phrase;
      took = record {
        accepted = got.accepted;
        received = got.received;
        few = got.few;
        passed =
            got.passed;
      };
    }

-- no phrase
pub outcome-phrase : (parts : EnrolParts) (before after : Option Link) (EndsFailed : Type 0) (trouble : Trouble)
    → IsPhraseTrouble before after EndsFailed trouble → IsOutcome parts before after EndsFailed (Err trouble)
outcome-phrase parts before after E troubles.EndsFailed h = (h.0, inl h.1)
outcome-phrase parts before after E troubles.PhraseRefused h = h
outcome-phrase parts before after E troubles.OutOfMemory h = absurd h
outcome-phrase parts before after E troubles.ReadFailed h = absurd h
outcome-phrase parts before after E (troubles.Missing _) h = absurd h
outcome-phrase parts before after E (troubles.SetupRefused _) h = absurd h
outcome-phrase parts before after E (troubles.WordsRefused _) h = absurd h
outcome-phrase parts before after E (troubles.LogRefused _) h = absurd h
outcome-phrase parts before after E (troubles.Serving _) h = absurd h
outcome-phrase parts before after E (troubles.ResponseRefused _) h = absurd h
outcome-phrase parts before after E (troubles.NoRenewal _) h = absurd h
outcome-phrase parts before after E troubles.ReplaceFailed h = absurd h
