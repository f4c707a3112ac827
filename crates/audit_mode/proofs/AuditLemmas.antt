use Rattle.std.proofs.Common.{◌≡◌, ℕ, ◌≤◌, List, take, Option, Some, None, Err, IfSome, refl, sym, ap, subst, ◌∙◌, arith}
use Rattle.std.specs.Prelude.{option_map}
use Rattle.outside.specs.Files.{Contents, SameFiles}
use Rattle.outside.specs.Link.{Link}
use Rattle.outside.specs.Told.{Goes, Rose}
use Rattle.outside.proofs.Told.{Rose-within}
use Rattle.policy_model.specs.Settings.{Settings}
use Rattle.setup_reading.specs.declared.reading.SetupFileError.{SetupFileError}
use Rattle.setup_reading.specs.declared.reading.SetupFileError.TheVariants as setup_errors
use Rattle.setup_reading.specs.Read.{IsSetupError, IsSetupIn}
use Rattle.setup_reading.proofs.ReadLemmas.{IsSetupIn-later}
use Rattle.audit_check.specs.declared.answer.Audit.{Audit}
use Rattle.trouble.specs.declared.trouble.FileKind.TheVariants as kinds
use Rattle.trouble.specs.declared.trouble.Trouble.{Trouble}
use Rattle.trouble.specs.declared.trouble.Trouble.TheVariants as troubles
use Rattle.trouble.specs.Reading.{trouble_of_setup}
use Rattle.trouble.proofs.Unread.{setup_unread}
use Rattle.audit_mode.specs.Outcome.{IsAnswered, IsAnswerOf, IsAnswerOfBytes, IsFileTrouble, IsLogTrouble, IsOnlyAnswer, IsOutcome}
use Rattle.audit_mode.specs.Texts.{IsAuditedText}
use Rattle.audit_mode.specs.Words.{AuditParts}
use Rattle.audit_mode.proofs.TextLemmas.{one_text, text_of_image}

-- ---- the log

-- the front that was read of a log
abbrev pub IsFrontOf : {A : Type 0} → (A → List ℕ) → Option A → Option Contents → List ℕ → Type 0
IsFrontOf items found contents name = IfSome contents (λ files. option_map items found ≡ option_map (take 268435457) (files name))

-- there is no log where no front was read
pub missing-log : {A : Type 0} (items : A → List ℕ) (found : Option A) (contents : Option Contents) (name : List ℕ) → found ≡ None → IsFrontOf items found contents name → IfSome contents (λ files. files name ≡ None)
missing-log items found None name none read = tt
missing-log items found (Some files) name none read = go (files name) (sym (ap (option_map items) none) ∙ read) where
  go : (file : Option (List ℕ)) → None ≡ option_map (take 268435457) file → file ≡ None
  go None e = refl
  go (Some bytes) e = absurd cc

-- what is said of the front's text is said of the log
pub answer-of-text : (bytes text : List ℕ) (setup : Settings) (answer : Audit) → IsAuditedText bytes text → IsOnlyAnswer setup text answer → IsAnswerOfBytes setup bytes answer
answer-of-text bytes text setup answer is only = record {
  text = text;
  audited = is;
  one = λ other also. one_text bytes text other is also;
  recovered = λ records has. text_of_image bytes text records is has;
  answered = only;
}

-- what is said of the front is said of the log
pub answer-of-front : {A : Type 0} (items : A → List ℕ) (found : Option A) (bytes : A) (contents : Option Contents) (name : List ℕ) (setup : Settings) (answer : Audit) → found ≡ Some bytes → IsFrontOf items found contents name → IsAnswerOfBytes setup (items bytes) answer → IfSome contents (λ files. IsAnswerOf setup (files name) answer)
answer-of-front items found bytes None name setup answer there read said = tt
answer-of-front items found bytes (Some files) name setup answer there read said =
    go (files name) (sym (ap (option_map items) there) ∙ read) where
      go : (file : Option (List ℕ)) → Some (items bytes) ≡ option_map (take 268435457) file → IsAnswerOf setup file answer
      go None e = absurd cc
      go (Some text) e =
          let same : items bytes ≡ take 268435457 text = cc in
          subst (λ t. IsAnswerOfBytes setup t answer) same said

-- ---- the setup and the log

pub IsAnswered-setup : (before after : Option Contents) (parts : AuditParts) (setup : Settings) (answer : Audit) → Goes SameFiles before after → IsSetupIn before parts.setup setup → IfSome after (λ files. IsAnswerOf setup (files parts.log) answer) → IsAnswered after parts answer
IsAnswered-setup before after parts setup answer goes spelled said =
    record { setup = setup; spelled = IsSetupIn-later before after parts.setup setup goes spelled; answer_of = said }

-- trouble with the setup's file
pub IsFileTrouble-setup : (contents : Option Contents) (parts : AuditParts) (ReadFailed : Type 0) (error : SetupFileError) → IsSetupError contents parts.setup ReadFailed error → IsFileTrouble contents parts ReadFailed (trouble_of_setup error)
IsFileTrouble-setup contents parts R setup_errors.Failed why = why
IsFileTrouble-setup contents parts R setup_errors.OutOfMemory why = tt
IsFileTrouble-setup contents parts R setup_errors.Missing why = setup_unread contents parts.setup R setup_errors.Missing why
IsFileTrouble-setup contents parts R (setup_errors.Refused fault) why = setup_unread contents parts.setup R (setup_errors.Refused fault) why

-- trouble with the log's file, after the setup's
pub IsFileTrouble-log : (before after : Option Contents) (parts : AuditParts) (setup : Settings) (first between last : ℕ) (trouble : Trouble) → Goes SameFiles before after → IsSetupIn before parts.setup setup → first ≤ between → IsLogTrouble after parts.log (Rose between last) trouble → IsFileTrouble after parts (Rose first last) trouble
IsFileTrouble-log before after parts setup first between last troubles.ReadFailed goes spelled le why =
    Rose-within first between last last le why (omega arith)
IsFileTrouble-log before after parts setup first between last (troubles.Missing kinds.Log) goes spelled le why =
    record { setup = setup; spelled = IsSetupIn-later before after parts.setup setup goes spelled; missing = why }
IsFileTrouble-log before after parts setup first between last (troubles.Missing kinds.Setup) goes spelled le why = absurd why
IsFileTrouble-log before after parts setup first between last (troubles.Missing kinds.Words) goes spelled le why = absurd why
IsFileTrouble-log before after parts setup first between last troubles.OutOfMemory goes spelled le why = tt
IsFileTrouble-log before after parts setup first between last (troubles.SetupRefused _) goes spelled le why = absurd why
IsFileTrouble-log before after parts setup first between last (troubles.WordsRefused _) goes spelled le why = absurd why
IsFileTrouble-log before after parts setup first between last (troubles.LogRefused _) goes spelled le why = absurd why
IsFileTrouble-log before after parts setup first between last (troubles.Serving _) goes spelled le why = absurd why
IsFileTrouble-log before after parts setup first between last (troubles.ResponseRefused _) goes spelled le why = absurd why
IsFileTrouble-log before after parts setup first between last (troubles.NoRenewal _) goes spelled le why = absurd why
IsFileTrouble-log before after parts setup first between last troubles.ReplaceFailed goes spelled le why = absurd why
IsFileTrouble-log before after parts setup first between last troubles.EndsFailed goes spelled le why = absurd why
IsFileTrouble-log before after parts setup first between last troubles.PhraseRefused goes spelled le why = absurd why

-- trouble with a file is what came of the mode; the ends are as they were
pub IsOutcome-file : (parts : AuditParts) (contents : Option Contents) (link : Option Link) (ReadFailed EndsFailed : Type 0) (trouble : Trouble) → IsFileTrouble contents parts ReadFailed trouble → IsOutcome parts contents link link ReadFailed EndsFailed (Err trouble)
IsOutcome-file parts contents link R E troubles.EndsFailed why = absurd why
IsOutcome-file parts contents link R E troubles.ReadFailed why = (why, refl)
IsOutcome-file parts contents link R E (troubles.Missing _) why = (why, refl)
IsOutcome-file parts contents link R E (troubles.SetupRefused _) why = (why, refl)
IsOutcome-file parts contents link R E (troubles.WordsRefused _) why = (why, refl)
IsOutcome-file parts contents link R E (troubles.LogRefused _) why = (why, refl)
IsOutcome-file parts contents link R E (troubles.Serving _) why = (why, refl)
IsOutcome-file parts contents link R E (troubles.ResponseRefused _) why = (why, refl)
IsOutcome-file parts contents link R E (troubles.NoRenewal _) why = (why, refl)
IsOutcome-file parts contents link R E troubles.ReplaceFailed why = (why, refl)
IsOutcome-file parts contents link R E troubles.OutOfMemory why = (why, refl)
IsOutcome-file parts contents link R E troubles.PhraseRefused why = (why, refl)
