-- The two files, written one after the other.
use Rattle.std.proofs.Common.{◌≡◌, [], Option, Some, None, ◌∙◌, ◌⊎◌, inl, inr}
use Rattle.outside.specs.Files.{Contents, MayBeReplaced, Replaced, SameFiles}
use Rattle.outside.specs.Told.{Goes}
use Rattle.outside.proofs.Told.{Goes-then}
use Rattle.durable_log.specs.Journal.{image_of}
use Rattle.recover_mode.specs.declared.texts.Texts.{Texts}
use Rattle.recover_mode.specs.Outcome.{Spares}
use Rattle.recover_mode.specs.Recovering.{AreWritten, MayBeWritten}
use Rattle.recover_mode.specs.Words.{RecoverParts}

both-written : (texts : Texts) (a b c : Contents) → Replaced texts.setup texts.bytes.items a b → Replaced texts.log (image_of []) b c → AreWritten texts a c
both-written texts a b c first second = record {
  setup = λ ne. second.others texts.setup ne ∙ first.file;
  log = second.file;
  others = λ other ne nor. second.others other nor ∙ first.others other ne;
}

pub AreWritten-both : (texts : Texts) (a b c : Option Contents) → Goes (Replaced texts.setup texts.bytes.items) a b → Goes (Replaced texts.log (image_of [])) b c → Goes (AreWritten texts) a c
AreWritten-both texts = Goes-then (Replaced texts.setup texts.bytes.items) (Replaced texts.log (image_of [])) (AreWritten texts) (both-written texts)

-- the first replacing failed
pub MayBeWritten-first : (texts : Texts) (a b : Option Contents) → Goes (MayBeReplaced texts.setup texts.bytes.items) a b → Goes (MayBeWritten texts) a b
MayBeWritten-first texts a None goes = tt
MayBeWritten-first texts None (Some b) goes = absurd goes
MayBeWritten-first texts (Some a) (Some b) goes = record { one = go goes.either } where
  go : SameFiles a b ⊎ Replaced texts.setup texts.bytes.items a b → SameFiles a b ⊎ (Replaced texts.setup texts.bytes.items a b ⊎ AreWritten texts a b)
  go (inl same) = inl same
  go (inr written) = inr (inl written)

-- the second failed
pub MayBeWritten-second : (texts : Texts) (a b c : Option Contents) → Goes (Replaced texts.setup texts.bytes.items) a b → Goes (MayBeReplaced texts.log (image_of [])) b c → Goes (MayBeWritten texts) a c
MayBeWritten-second texts = Goes-then (Replaced texts.setup texts.bytes.items) (MayBeReplaced texts.log (image_of [])) (MayBeWritten texts) (λ a b c first second. record { one = go a b c first second.either }) where
  go : (a b c : Contents) → Replaced texts.setup texts.bytes.items a b → SameFiles b c ⊎ Replaced texts.log (image_of []) b c → SameFiles a c ⊎ (Replaced texts.setup texts.bytes.items a c ⊎ AreWritten texts a c)
  go a b c first (inl same) = inr (inl (record { file = same.same texts.setup ∙ first.file; others = λ other ne. same.same other ∙ first.others other ne }))
  go a b c first (inr second) = inr (inr (both-written texts a b c first second))

-- ---- after files that stayed as they were

pub same-written : (texts : Texts) (a b c : Option Contents) → Goes SameFiles a b → Goes (AreWritten texts) b c → Goes (AreWritten texts) a c
same-written texts = Goes-then SameFiles (AreWritten texts) (AreWritten texts) (λ a b c first second. record {
  setup = second.setup;
  log = second.log;
  others = λ other ne nor. second.others other ne nor ∙ first.same other;
})

pub same-may_be_written : (texts : Texts) (a b c : Option Contents) → Goes SameFiles a b → Goes (MayBeWritten texts) b c → Goes (MayBeWritten texts) a c
same-may_be_written texts = Goes-then SameFiles (MayBeWritten texts) (MayBeWritten texts) (λ a b c first second. record { one = go a b c first second.one }) where
  go : (a b c : Contents) → SameFiles a b → SameFiles b c ⊎ (Replaced texts.setup texts.bytes.items b c ⊎ AreWritten texts b c) → SameFiles a c ⊎ (Replaced texts.setup texts.bytes.items a c ⊎ AreWritten texts a c)
  go a b c first (inl same) = inl (record { same = λ name. same.same name ∙ first.same name })
  go a b c first (inr (inl written)) = inr (inl (record { file = written.file; others = λ other ne. written.others other ne ∙ first.same other }))
  go a b c first (inr (inr both)) = inr (inr (record { setup = both.setup; log = both.log; others = λ other ne nor. both.others other ne nor ∙ first.same other }))

-- ---- no other file

pub same-spares : (parts : RecoverParts) (a b : Option Contents) → Goes SameFiles a b → Goes (Spares parts) a b
same-spares parts a None goes = tt
same-spares parts None (Some b) goes = absurd goes
same-spares parts (Some a) (Some b) goes = record { others = λ other _ _. goes.same other }

pub written-spares : (parts : RecoverParts) (texts : Texts) (a b : Option Contents) → texts.setup ≡ parts.setup → texts.log ≡ parts.log → Goes (AreWritten texts) a b → Goes (Spares parts) a b
written-spares parts texts a None setup log goes = tt
written-spares parts texts None (Some b) setup log goes = absurd goes
written-spares parts texts (Some a) (Some b) setup log goes = record { others = λ other ne nor. goes.others other (λ e. ne (e ∙ setup)) (λ e. nor (e ∙ log)) }

pub may_be_written-spares : (parts : RecoverParts) (texts : Texts) (a b : Option Contents) → texts.setup ≡ parts.setup → texts.log ≡ parts.log → Goes (MayBeWritten texts) a b → Goes (Spares parts) a b
may_be_written-spares parts texts a None setup log goes = tt
may_be_written-spares parts texts None (Some b) setup log goes = absurd goes
may_be_written-spares parts texts (Some a) (Some b) setup log goes = go goes.one where
  go : SameFiles a b ⊎ (Replaced texts.setup texts.bytes.items a b ⊎ AreWritten texts a b) → Spares parts a b
  go (inl same) = record { others = λ other _ _. same.same other }
  go (inr (inl written)) = record { others = λ other ne _. written.others other (λ e. ne (e ∙ setup)) }
  go (inr (inr both)) = record { others = λ other ne nor. both.others other (λ e. ne (e ∙ setup)) (λ e. nor (e ∙ log)) }
