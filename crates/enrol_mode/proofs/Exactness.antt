-- What came of the mode says when it must answer so.
use Rattle.std.proofs.Common.{◌≡◌, ◌⊎◌, ℕ, List, Option, Some, None, Result, Ok, Err, inl, inr, refl, ap, ◌∙◌}
use Rattle.outside.specs.Link.{Link}
use Rattle.outside.specs.Told.{Goes}
use Rattle.otp_mode.specs.Exact.{HasPhrase}
use Rattle.otp_mode.specs.Outcome.{RefusedPhrase}
use Rattle.otp_mode.specs.Phrase.{phrase_of}
use Rattle.trouble.specs.declared.trouble.Trouble.{Trouble}
use Rattle.trouble.specs.declared.trouble.Trouble.TheVariants as troubles
use Rattle.enrol_mode.specs.Exact.{IsExact}
use Rattle.enrol_mode.specs.Outcome.{IsOutcome, OnlyTook, Printed}
use Rattle.enrol_mode.specs.Words.{EnrolParts}

-- an input with a phrase or without one has what was received of it
same_phrase : (before after : Link) (phrase : Option (List ℕ)) → HasPhrase (Some before) (Some after) phrase
    → phrase_of before.left ≡ phrase
same_phrase before after phrase h =
    let same : before ≡ h.first = cc in
    ap (λ (l : Link). phrase_of l.left) same ∙ h.has

untold : (before : Option Link) (phrase : Option (List ℕ)) → HasPhrase before None phrase → ⊥
untold before phrase h =
    let told = h.still_told in
    cc

printed-phrase : (parts : EnrolParts) (before after : Option Link) → HasPhrase before after None
    → Goes (Printed parts) before after → ⊥
printed-phrase parts before None h goes = untold before None h
printed-phrase parts None (Some after) h goes = goes
printed-phrase parts (Some before) (Some after) h goes =
    let none = same_phrase before after None h in
    let some = goes.took.accepted in
    cc

took-phrase : (before after : Option Link) → HasPhrase before after None → Goes OnlyTook before after → ⊥
took-phrase before None h goes = untold before None h
took-phrase None (Some after) h goes = goes
took-phrase (Some before) (Some after) h goes =
    let none = same_phrase before after None h in
    let some = goes.took.accepted in
    cc

refused-phrase : (before after : Option Link) (phrase : List ℕ) → HasPhrase before after (Some phrase)
    → Goes RefusedPhrase before after → ⊥
refused-phrase before None phrase h goes = untold before (Some phrase) h
refused-phrase None (Some after) phrase h goes = goes
refused-phrase (Some before) (Some after) phrase h goes =
    let some = same_phrase before after (Some phrase) h in
    let none = goes.refused in
    cc

must_refuse : (parts : EnrolParts) (before after : Option Link) (EndsFailed : Type 0)
    (result : Result (Unit {0}) Trouble) → IsOutcome parts before after EndsFailed result
    → HasPhrase before after None → (result ≡ Err troubles.PhraseRefused) ⊎ (result ≡ Err troubles.EndsFailed)
must_refuse parts before after E (Ok _) o h = absurd (printed-phrase parts before after h o)
must_refuse parts before after E (Err troubles.OutOfMemory) o h = absurd (took-phrase before after h o)
must_refuse parts before after E (Err troubles.EndsFailed) o h = inr refl
must_refuse parts before after E (Err troubles.PhraseRefused) o h = inl refl
must_refuse parts before after E (Err (troubles.Missing _)) o h = absurd o
must_refuse parts before after E (Err (troubles.SetupRefused _)) o h = absurd o
must_refuse parts before after E (Err (troubles.WordsRefused _)) o h = absurd o
must_refuse parts before after E (Err (troubles.LogRefused _)) o h = absurd o
must_refuse parts before after E (Err (troubles.Serving _)) o h = absurd o
must_refuse parts before after E (Err (troubles.ResponseRefused _)) o h = absurd o
must_refuse parts before after E (Err (troubles.NoRenewal _)) o h = absurd o
must_refuse parts before after E (Err troubles.ReplaceFailed) o h = absurd o
must_refuse parts before after E (Err troubles.ReadFailed) o h = absurd o

must_print : (parts : EnrolParts) (before after : Option Link) (EndsFailed : Type 0)
    (result : Result (Unit {0}) Trouble) (phrase : List ℕ) → IsOutcome parts before after EndsFailed result
    → HasPhrase before after (Some phrase) → (EndsFailed → ⊥) → (result ≡ Ok tt) ⊎ (result ≡ Err troubles.OutOfMemory)
must_print parts before after E (Ok _) phrase o h ends = inl refl
must_print parts before after E (Err troubles.OutOfMemory) phrase o h ends = inr refl
must_print parts before after E (Err troubles.EndsFailed) phrase o h ends = absurd (ends o.0)
must_print parts before after E (Err troubles.PhraseRefused) phrase o h ends =
    absurd (refused-phrase before after phrase h o)
must_print parts before after E (Err (troubles.Missing _)) phrase o h ends = absurd o
must_print parts before after E (Err (troubles.SetupRefused _)) phrase o h ends = absurd o
must_print parts before after E (Err (troubles.WordsRefused _)) phrase o h ends = absurd o
must_print parts before after E (Err (troubles.LogRefused _)) phrase o h ends = absurd o
must_print parts before after E (Err (troubles.Serving _)) phrase o h ends = absurd o
must_print parts before after E (Err (troubles.ResponseRefused _)) phrase o h ends = absurd o
must_print parts before after E (Err (troubles.NoRenewal _)) phrase o h ends = absurd o
must_print parts before after E (Err troubles.ReplaceFailed) phrase o h ends = absurd o
must_print parts before after E (Err troubles.ReadFailed) phrase o h ends = absurd o

pub exactly : (parts : EnrolParts) (before after : Option Link) (EndsFailed : Type 0)
    (result : Result (Unit {0}) Trouble) → IsOutcome parts before after EndsFailed result
    → IsExact before after EndsFailed result
exactly parts before after E result o = record {
  phrase_refused = λ h. must_refuse parts before after E result o h;
  complete = λ phrase h ends. must_print parts before after E result phrase o h ends;
}
