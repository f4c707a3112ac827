use Rattle.std.proofs.Common.{◌≡◌, ◌⊎◌, inl, inr, ℕ, true, List, Option, Some, None, Result, Ok, Err, refl, sym, ap, ◌∙◌}
use Rattle.std.specs.Prelude.{IfSome}
use Rattle.std.specs.Result.{result_map_both}
use Rattle.outside.specs.Files.{Contents}
use Rattle.outside.specs.Link.{Link}
use Rattle.outside.specs.Told.{Goes}
use Rattle.otp_words.specs.declared.fault.DictFault.{DictFault}
use Rattle.otp_words.specs.Lists.{dictionary_of}
use Rattle.file_front.specs.Lists.{IsTextOf, list_text}
use Rattle.trouble.specs.declared.trouble.Trouble.{Trouble}
use Rattle.trouble.specs.declared.trouble.Trouble.TheVariants as troubles
use Rattle.trouble.specs.Reading.{list_in}
use Rattle.trouble.proofs.Unread.{found_list}
use Rattle.otp_mode.specs.Exact.{HasPhrase, IsExact, IsJudged, ListIsGood}
use Rattle.otp_mode.specs.Outcome.{HasWords, IsOutcome, IsUnlisted, Printed, RefusedPhrase, ends_at_list}
use Rattle.otp_mode.specs.Phrase.{phrase_of}
use Rattle.otp_mode.specs.Words.{OtpParts}

-- what is told is one value
some-same : {X : Type 0} (x y : X) → Some x ≡ Some y → x ≡ y
some-same x y e = cc

-- the text that was read is the one that is told
same-text : (contents : Option Contents) (name text : List ℕ) (judgement : Result (List (List ℕ)) DictFault) → IsJudged contents name judgement → IsTextOf contents name text → dictionary_of text ≡ judgement
same-text None name text judgement j read = absurd (none j.told)
  where
    none : None ≡ Some j.files → ⊥
    none e = cc
same-text (Some files) name text judgement j read =
    let same : files ≡ j.files = cc in
    let there : list_text (files name) ≡ Some j.text = ap (λ f. list_text (f name)) same ∙ j.there in
    let texts : text ≡ j.text = cc in
    ap dictionary_of texts ∙ j.judged

-- a list that is refused has no words, and is there
not-words : (contents : Option Contents) (list : Option (List ℕ)) (words : Option (List (List ℕ))) (name : List ℕ) (fault : DictFault) → list ≡ Some name → IsJudged contents name (Err fault) → HasWords contents list words → ⊥
not-words contents None words name fault named j has = cc
not-words contents (Some other) None name fault named j has = has
not-words contents (Some other) (Some words) name fault named j has =
    let same : other ≡ name = cc in
    let read : IsTextOf contents name has.0 = rw (← same) has.1 in
    let judged = same-text contents name has.0 (Err fault) j read in
    let words' = has.2 in
    cc

-- what is judged so is what the file says
judged-in : (contents : Option Contents) (name : List ℕ) (judgement : Result (List (List ℕ)) DictFault) (trouble : Trouble) → IsJudged contents name judgement → IfSome contents (λ files. list_in files name ≡ Err trouble) → result_map_both (λ words. words) troubles.WordsRefused judgement ≡ Err trouble
judged-in None name judgement trouble j says = absurd (none j.told)
  where
    none : None ≡ Some j.files → ⊥
    none e = cc
judged-in (Some files) name judgement trouble j says =
    let same : files ≡ j.files = cc in
    let there : list_text (files name) ≡ Some j.text = ap (λ f. list_text (f name)) same ∙ j.there in
    sym (ap found_list there ∙ ap (result_map_both (λ words. words) troubles.WordsRefused) j.judged) ∙ says

-- the mode ended by a trouble
abbrev ended : Trouble → Result (Unit {0}) Trouble
ended trouble = Err trouble

-- a list that is refused is not read, by that fault or since something failed
refused-unlisted : (contents : Option Contents) (list : Option (List ℕ)) (ReadFailed : Type 0) (name : List ℕ) (fault : DictFault) (trouble : Trouble) → list ≡ Some name → IsJudged contents name (Err fault) → IsUnlisted contents list ReadFailed trouble → (ended trouble ≡ Err (troubles.WordsRefused fault)) ⊎ (ended trouble ≡ Err troubles.ReadFailed) ⊎ (ended trouble ≡ Err troubles.OutOfMemory)
refused-unlisted contents list R name fault troubles.OutOfMemory named j h = inr (inr refl)
refused-unlisted contents list R name fault troubles.ReadFailed named j h = inr (inl refl)
refused-unlisted contents None R name fault trouble named j h = absurd h
refused-unlisted contents (Some other) R name fault (troubles.Missing file) named j h =
    let same : name ≡ other = cc in
    let is = judged-in contents other (Err fault) (troubles.Missing file) (rw (← same) j) h.1 in
    absurd cc
refused-unlisted contents (Some other) R name fault (troubles.WordsRefused fault') named j h =
    let same : name ≡ other = cc in
    let is = judged-in contents other (Err fault) (troubles.WordsRefused fault') (rw (← same) j) h.1 in
    inl cc
refused-unlisted contents (Some other) R name fault (troubles.SetupRefused _) named j h = absurd cc
refused-unlisted contents (Some other) R name fault (troubles.LogRefused _) named j h = absurd h
refused-unlisted contents (Some other) R name fault (troubles.Serving _) named j h = absurd h
refused-unlisted contents (Some other) R name fault (troubles.ResponseRefused _) named j h = absurd h
refused-unlisted contents (Some other) R name fault (troubles.NoRenewal _) named j h = absurd h
refused-unlisted contents (Some other) R name fault troubles.ReplaceFailed named j h = absurd h
refused-unlisted contents (Some other) R name fault troubles.EndsFailed named j h = absurd h
refused-unlisted contents (Some other) R name fault troubles.PhraseRefused named j h = absurd h

list-refused : (parts : OtpParts) (contents : Option Contents) (before after : Option Link) (ReadFailed EndsFailed : Type 0) (result : Result (Unit {0}) Trouble) (name : List ℕ) (fault : DictFault) → IsOutcome parts contents before after ReadFailed EndsFailed result → parts.list ≡ Some name → IsJudged contents name (Err fault) → (result ≡ Err (troubles.WordsRefused fault)) ⊎ (result ≡ Err troubles.ReadFailed) ⊎ (result ≡ Err troubles.OutOfMemory)
list-refused parts contents before after R E (Ok _) name fault o named j =
    absurd (not-words contents parts.list o.0 name fault named j o.1)
list-refused parts contents before after R E (Err troubles.EndsFailed) name fault o named j =
    absurd (not-words contents parts.list o.1.0 name fault named j o.1.1)
list-refused parts contents before after R E (Err troubles.PhraseRefused) name fault o named j =
    absurd (not-words contents parts.list o.0.0 name fault named j o.0.1)
list-refused parts contents before after R E (Err troubles.OutOfMemory) name fault o named j = inr (inr refl)
list-refused parts contents before after R E (Err troubles.ReadFailed) name fault o named j = inr (inl refl)
list-refused parts contents before after R E (Err (troubles.Missing file)) name fault o named j =
    refused-unlisted contents parts.list R name fault (troubles.Missing file) named j o.0
list-refused parts contents before after R E (Err (troubles.SetupRefused bad)) name fault o named j =
    refused-unlisted contents parts.list R name fault (troubles.SetupRefused bad) named j o.0
list-refused parts contents before after R E (Err (troubles.WordsRefused bad)) name fault o named j =
    refused-unlisted contents parts.list R name fault (troubles.WordsRefused bad) named j o.0
list-refused parts contents before after R E (Err (troubles.LogRefused bad)) name fault o named j =
    refused-unlisted contents parts.list R name fault (troubles.LogRefused bad) named j o.0
list-refused parts contents before after R E (Err (troubles.Serving bad)) name fault o named j =
    refused-unlisted contents parts.list R name fault (troubles.Serving bad) named j o.0
list-refused parts contents before after R E (Err (troubles.ResponseRefused bad)) name fault o named j =
    refused-unlisted contents parts.list R name fault (troubles.ResponseRefused bad) named j o.0
list-refused parts contents before after R E (Err (troubles.NoRenewal bad)) name fault o named j =
    refused-unlisted contents parts.list R name fault (troubles.NoRenewal bad) named j o.0
list-refused parts contents before after R E (Err troubles.ReplaceFailed) name fault o named j =
    refused-unlisted contents parts.list R name fault troubles.ReplaceFailed named j o.0

-- an input without a phrase wasn't accepted, and one with a phrase wasn't refused
printed-phrase : (parts : OtpParts) (words : Option (List (List ℕ))) (before after : Option Link) → HasPhrase before after None → Goes (Printed parts words) before after → ⊥
printed-phrase parts words before None h goes =
    let told = h.still_told in
    cc
printed-phrase parts words None (Some after) h goes = goes
printed-phrase parts words (Some before) (Some after) h goes =
    let same : before ≡ h.first = some-same before h.first h.told in
    let refused : phrase_of before.left ≡ None = ap (λ l. phrase_of l.left) same ∙ h.has in
    let accepted = goes.accepted in
    cc

refused-phrase : (before after : Option Link) (phrase : List ℕ) → HasPhrase before after (Some phrase) → Goes RefusedPhrase before after → ⊥
refused-phrase before None phrase h goes =
    let told = h.still_told in
    cc
refused-phrase None (Some after) phrase h goes = goes
refused-phrase (Some before) (Some after) phrase h goes =
    let same : before ≡ h.first = some-same before h.first h.told in
    let accepted : phrase_of before.left ≡ Some phrase = ap (λ l. phrase_of l.left) same ∙ h.has in
    let refused = goes.refused in
    cc

phrase-refused : (parts : OtpParts) (contents : Option Contents) (before after : Option Link) (ReadFailed EndsFailed : Type 0) (result : Result (Unit {0}) Trouble) → IsOutcome parts contents before after ReadFailed EndsFailed result → HasPhrase before after None → (result ≡ Err troubles.PhraseRefused) ⊎ (result ≡ Err troubles.EndsFailed) ⊎ (ends_at_list result ≡ true)
phrase-refused parts contents before after R E (Ok _) o h =
    absurd (printed-phrase parts o.0 before after h o.2)
phrase-refused parts contents before after R E (Err troubles.EndsFailed) o h = inr (inl refl)
phrase-refused parts contents before after R E (Err troubles.PhraseRefused) o h = inl refl
phrase-refused parts contents before after R E (Err troubles.OutOfMemory) o h = inr (inr refl)
phrase-refused parts contents before after R E (Err troubles.ReadFailed) o h = inr (inr refl)
phrase-refused parts contents before after R E (Err (troubles.Missing _)) o h = inr (inr refl)
phrase-refused parts contents before after R E (Err (troubles.SetupRefused _)) o h = inr (inr refl)
phrase-refused parts contents before after R E (Err (troubles.WordsRefused _)) o h = inr (inr refl)
phrase-refused parts contents before after R E (Err (troubles.LogRefused _)) o h = inr (inr refl)
phrase-refused parts contents before after R E (Err (troubles.Serving _)) o h = inr (inr refl)
phrase-refused parts contents before after R E (Err (troubles.ResponseRefused _)) o h = inr (inr refl)
phrase-refused parts contents before after R E (Err (troubles.NoRenewal _)) o h = inr (inr refl)
phrase-refused parts contents before after R E (Err troubles.ReplaceFailed) o h = inr (inr refl)

-- a list that is good is read, unless something fails
good-unlisted : (contents : Option Contents) (list : Option (List ℕ)) (ReadFailed : Type 0) (trouble : Trouble) → ListIsGood contents list → IsUnlisted contents list ReadFailed trouble → (ReadFailed → ⊥) → ended trouble ≡ Err troubles.OutOfMemory
good-unlisted contents None R trouble good h read = absurd h
good-unlisted contents (Some name) R troubles.OutOfMemory good h read = refl
good-unlisted contents (Some name) R troubles.ReadFailed good h read = absurd (read h)
good-unlisted contents (Some name) R (troubles.Missing file) good h read =
    let is = judged-in contents name (Ok good.0) (troubles.Missing file) good.1 h.1 in
    absurd cc
good-unlisted contents (Some name) R (troubles.WordsRefused fault) good h read =
    let is = judged-in contents name (Ok good.0) (troubles.WordsRefused fault) good.1 h.1 in
    absurd cc
good-unlisted contents (Some name) R (troubles.SetupRefused _) good h read = absurd cc
good-unlisted contents (Some name) R (troubles.LogRefused _) good h read = absurd h
good-unlisted contents (Some name) R (troubles.Serving _) good h read = absurd h
good-unlisted contents (Some name) R (troubles.ResponseRefused _) good h read = absurd h
good-unlisted contents (Some name) R (troubles.NoRenewal _) good h read = absurd h
good-unlisted contents (Some name) R troubles.ReplaceFailed good h read = absurd h
good-unlisted contents (Some name) R troubles.EndsFailed good h read = absurd h
good-unlisted contents (Some name) R troubles.PhraseRefused good h read = absurd h

complete : (parts : OtpParts) (contents : Option Contents) (before after : Option Link) (ReadFailed EndsFailed : Type 0) (result : Result (Unit {0}) Trouble) (phrase : List ℕ) → IsOutcome parts contents before after ReadFailed EndsFailed result → ListIsGood contents parts.list → HasPhrase before after (Some phrase) → (ReadFailed → ⊥) → (EndsFailed → ⊥) → (result ≡ Ok tt) ⊎ (result ≡ Err troubles.OutOfMemory)
complete parts contents before after R E (Ok _) phrase o good h read ends = inl refl
complete parts contents before after R E (Err troubles.EndsFailed) phrase o good h read ends = absurd (ends o.0)
complete parts contents before after R E (Err troubles.PhraseRefused) phrase o good h read ends =
    absurd (refused-phrase before after phrase h o.1)
complete parts contents before after R E (Err troubles.OutOfMemory) phrase o good h read ends = inr refl
complete parts contents before after R E (Err troubles.ReadFailed) phrase o good h read ends =
    inr (good-unlisted contents parts.list R troubles.ReadFailed good o.0 read)
complete parts contents before after R E (Err (troubles.Missing file)) phrase o good h read ends =
    inr (good-unlisted contents parts.list R (troubles.Missing file) good o.0 read)
complete parts contents before after R E (Err (troubles.SetupRefused fault)) phrase o good h read ends =
    inr (good-unlisted contents parts.list R (troubles.SetupRefused fault) good o.0 read)
complete parts contents before after R E (Err (troubles.WordsRefused fault)) phrase o good h read ends =
    inr (good-unlisted contents parts.list R (troubles.WordsRefused fault) good o.0 read)
complete parts contents before after R E (Err (troubles.LogRefused fault)) phrase o good h read ends =
    inr (good-unlisted contents parts.list R (troubles.LogRefused fault) good o.0 read)
complete parts contents before after R E (Err (troubles.Serving fault)) phrase o good h read ends =
    inr (good-unlisted contents parts.list R (troubles.Serving fault) good o.0 read)
complete parts contents before after R E (Err (troubles.ResponseRefused fault)) phrase o good h read ends =
    inr (good-unlisted contents parts.list R (troubles.ResponseRefused fault) good o.0 read)
complete parts contents before after R E (Err (troubles.NoRenewal fault)) phrase o good h read ends =
    inr (good-unlisted contents parts.list R (troubles.NoRenewal fault) good o.0 read)
complete parts contents before after R E (Err troubles.ReplaceFailed) phrase o good h read ends =
    inr (good-unlisted contents parts.list R troubles.ReplaceFailed good o.0 read)

-- what came of the mode says when it must answer so
pub exactly : (parts : OtpParts) (contents : Option Contents) (before after : Option Link) (ReadFailed EndsFailed : Type 0) (result : Result (Unit {0}) Trouble) → IsOutcome parts contents before after ReadFailed EndsFailed result → IsExact parts contents before after ReadFailed EndsFailed result
exactly parts contents before after R E result o = record {
  list_refused = λ name fault named j. list-refused parts contents before after R E result name fault o named j;
  phrase_refused = λ h. phrase-refused parts contents before after R E result o h;
  complete = λ phrase good h read ends. complete parts contents before after R E result phrase o good h read ends;
}
