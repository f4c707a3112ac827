-- The setup and the image that were read.
use Rattle.std.proofs.Common.{◌≡◌, ℕ, ◌≤◌, List, [], take, Option, Some, None, IfSome, refl, sym, ap, ◌∙◌, arith}
use Rattle.std.specs.Prelude.{option_map}
use Rattle.outside.specs.Files.{Contents, SameFiles}
use Rattle.outside.specs.Told.{Goes, Rose}
use Rattle.outside.proofs.Told.{Rose-within}
use Rattle.policy_model.specs.Settings.{Settings}
use Rattle.file_front.specs.declared.front.FrontError.{FrontError}
use Rattle.file_front.specs.declared.front.FrontError.TheVariants as front_errors
use Rattle.setup_reading.specs.Read.{IsSetupIn, judged_setup}
use Rattle.setup_reading.proofs.ReadLemmas.{IsSetupIn-later}
use Rattle.durable_log.specs.Journal.{image_of}
use Rattle.recover_mode.specs.Bases.{HasBasis, image_in}
use Rattle.trouble.specs.Reading.{IsUnreadSetup, trouble_of_front}
use Rattle.recover_mode.specs.Words.{RecoverParts}

-- ---- the image

-- the front that was read of a log's file
abbrev pub IsFrontOf : {A : Type 0} → (A → List ℕ) → Option A → Option Contents → List ℕ → Type 0
IsFrontOf items found contents name = IfSome contents (λ files. option_map items found ≡ option_map (take 271581189) (files name))

-- the image of a log, where the files tell
abbrev pub IsImageIn : Option Contents → List ℕ → List ℕ → Type 0
IsImageIn contents name image = IfSome contents (λ files. image ≡ image_in (files name))

-- of a log that is missing it is that of no records
pub image-missing : {A : Type 0} (items : A → List ℕ) (found : Option A) (contents : Option Contents) (name image : List ℕ) → found ≡ None → image ≡ image_of [] → IsFrontOf items found contents name → IsImageIn contents name image
image-missing items found None name image none is read = tt
image-missing items found (Some files) name image none is read = go (files name) (sym (ap (option_map items) none) ∙ read) where
  go : (file : Option (List ℕ)) → None ≡ option_map (take 271581189) file → image ≡ image_in file
  go None e = is
  go (Some bytes) e = absurd cc

pub image-found : {A : Type 0} (items : A → List ℕ) (found : Option A) (bytes : A) (contents : Option Contents) (name : List ℕ) → found ≡ Some bytes → IsFrontOf items found contents name → IsImageIn contents name (items bytes)
image-found items found bytes None name there read = tt
image-found items found bytes (Some files) name there read = go (files name) (sym (ap (option_map items) there) ∙ read) where
  go : (file : Option (List ℕ)) → Some (items bytes) ≡ option_map (take 271581189) file → items bytes ≡ image_in file
  go None e = absurd cc
  go (Some text) e = cc

-- ---- both

pub HasBasis-read : (before after : Option Contents) (parts : RecoverParts) (setup : Settings) (image : List ℕ) → Goes SameFiles before after → IsSetupIn before parts.setup setup → IsImageIn after parts.log image → IfSome after (HasBasis parts setup image)
HasBasis-read before None parts setup image goes spelled logged = tt
HasBasis-read None (Some files) parts setup image goes spelled logged = absurd goes
HasBasis-read (Some before) (Some files) parts setup image goes spelled logged =
    record { spelled = IsSetupIn-later (Some before) (Some files) parts.setup setup goes spelled; logged = logged }

-- what the files held before, if they hold it still
pub HasBasis-before : (before between after : Option Contents) (parts : RecoverParts) (setup : Settings) (image : List ℕ) (Step : Contents → Contents → Type 0) → Goes SameFiles before between → Goes Step between after → IfSome between (HasBasis parts setup image) → Goes (λ files _. HasBasis parts setup image files) before after
HasBasis-before before between None parts setup image Step goes step has = tt
HasBasis-before before None (Some after) parts setup image Step goes step has = absurd step
HasBasis-before None (Some between) (Some after) parts setup image Step goes step has = absurd goes
HasBasis-before (Some before) (Some between) (Some after) parts setup image Step goes step has = record {
  spelled = ap (option_map judged_setup) (sym (goes.same parts.setup)) ∙ has.spelled;
  logged = has.logged ∙ ap image_in (goes.same parts.log);
}

-- ---- why there is none

-- a failed reading of the log's file, after the setup's
pub log-unread : (contents : Option Contents) (name : List ℕ) (first between last : ℕ) (error : FrontError) → first ≤ between → (error ≡ front_errors.Failed → Rose between last) → IsUnreadSetup contents name (Rose first last) (trouble_of_front error)
log-unread contents name first between last front_errors.Failed le why = Rose-within first between last last le (why refl) (omega arith)
log-unread contents name first between last front_errors.OutOfMemory le why = tt
