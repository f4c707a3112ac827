-- What came of the mode.
use Rattle.std.proofs.Common.{◌≡◌, ℕ, false, List, Option, Result, Ok, Err, IfSome, refl}
use Rattle.outside.specs.Files.{Contents, SameFiles}
use Rattle.outside.specs.Link.{Link}
use Rattle.outside.specs.Told.{Goes}
use Rattle.outside.proofs.Told.{Goes-same}
use Rattle.policy_model.specs.Settings.{Settings}
use Rattle.trouble.specs.declared.trouble.LogFault.TheVariants as log_faults
use Rattle.trouble.specs.declared.trouble.Trouble.{Trouble}
use Rattle.trouble.specs.declared.trouble.Trouble.TheVariants as troubles
use Rattle.trouble.specs.Reading.{IsUnreadSetup}
use Rattle.recover_mode.specs.declared.line.Recovery.{Recovery}
use Rattle.recover_mode.specs.declared.texts.Texts.{Texts}
use Rattle.recover_mode.specs.Bases.{HasBasis}
use Rattle.recover_mode.specs.Ends.{may_be_written}
use Rattle.recover_mode.specs.Outcome.{IsOutcome, IsRecovered, Spares}
use Rattle.recover_mode.specs.Recovering.{AreTexts, AreWritten, IsLogTrouble, IsPut, MayBeWritten}
use Rattle.recover_mode.specs.Words.{RecoverParts}
use Rattle.recover_mode.proofs.ReadLemmas.{HasBasis-before}
use Rattle.recover_mode.proofs.WriteLemmas.{may_be_written-spares, same-may_be_written, same-spares, same-written, written-spares}

-- ---- where the files were written, or could not be

IsRecovered-of : (parts : RecoverParts) (setup : Settings) (image : List ℕ) (texts : Texts) (Step : Contents → Contents → Type 0) (a b c : Option Contents) (before after : Option Link) (R E : Type 0) (result : Result Recovery Trouble) → Goes SameFiles a b → Goes Step b c → IfSome b (HasBasis parts setup image) → AreTexts parts setup image texts → IsPut texts a c before after R E result → IsRecovered parts a c before after R E result
IsRecovered-of parts setup image texts Step a b c before after R E result goes step has made put = record {
  setup = setup;
  image = image;
  stood = HasBasis-before a b c parts setup image Step goes step has;
  texts = texts;
  made = made;
  put = put;
}

pub IsOutcome-put : (parts : RecoverParts) (setup : Settings) (image : List ℕ) (texts : Texts) (R R' E : Type 0) (a b c : Option Contents) (before after : Option Link) (ReadFailed : Type 0) (result : Result Recovery Trouble) → Goes SameFiles a b → IfSome b (HasBasis parts setup image) → (R → R') → AreTexts parts setup image texts → IsPut texts b c before after R E result → IsOutcome parts a c before after ReadFailed R' E result
IsOutcome-put parts setup image texts R R' E a b c before after ReadFailed (Ok recovery) goes has r made put =
    IsRecovered-of parts setup image texts (AreWritten texts) a b c before after R' E (Ok recovery) goes put.1 has made (put.0, same-written texts a b c goes put.1, put.2)
IsOutcome-put parts setup image texts R R' E a b c before after ReadFailed (Err troubles.ReplaceFailed) goes has r made put =
    IsRecovered-of parts setup image texts (MayBeWritten texts) a b c before after R' E (Err troubles.ReplaceFailed) goes put.1 has made (r put.0, same-may_be_written texts a b c goes put.1, put.2)
IsOutcome-put parts setup image texts R R' E a b c before after ReadFailed (Err troubles.EndsFailed) goes has r made put =
    IsRecovered-of parts setup image texts (AreWritten texts) a b c before after R' E (Err troubles.EndsFailed) goes put.1 has made (put.0, same-written texts a b c goes put.1, put.2)
IsOutcome-put parts setup image texts R R' E a b c before after ReadFailed (Err troubles.ReadFailed) goes has r made put = absurd put
IsOutcome-put parts setup image texts R R' E a b c before after ReadFailed (Err (troubles.Missing _)) goes has r made put = absurd put
IsOutcome-put parts setup image texts R R' E a b c before after ReadFailed (Err (troubles.SetupRefused fault)) goes has r made put = absurd put
IsOutcome-put parts setup image texts R R' E a b c before after ReadFailed (Err (troubles.LogRefused log_faults.NotFresh)) goes has r made put = absurd put
IsOutcome-put parts setup image texts R R' E a b c before after ReadFailed (Err (troubles.Serving fault)) goes has r made put = absurd put
IsOutcome-put parts setup image texts R R' E a b c before after ReadFailed (Err (troubles.ResponseRefused fault)) goes has r made put = absurd put
IsOutcome-put parts setup image texts R R' E a b c before after ReadFailed (Err (troubles.NoRenewal fault)) goes has r made put = absurd put
IsOutcome-put parts setup image texts R R' E a b c before after ReadFailed (Err (troubles.WordsRefused fault)) goes has r made put = absurd put
IsOutcome-put parts setup image texts R R' E a b c before after ReadFailed (Err troubles.PhraseRefused) goes has r made put = absurd put
IsOutcome-put parts setup image texts R R' E a b c before after ReadFailed (Err (troubles.LogRefused (log_faults.Record number))) goes has r made put = absurd put
IsOutcome-put parts setup image texts R R' E a b c before after ReadFailed (Err troubles.OutOfMemory) goes has r made put = absurd put

-- ---- where the log is refused

pub IsOutcome-log : (parts : RecoverParts) (setup : Settings) (image : List ℕ) (a b : Option Contents) (link : Option Link) (ReadFailed ReplaceFailed EndsFailed : Type 0) (trouble : Trouble) → Goes SameFiles a b → IfSome b (HasBasis parts setup image) → IsLogTrouble setup image trouble → IsOutcome parts a b link link ReadFailed ReplaceFailed EndsFailed (Err trouble)
IsOutcome-log parts setup image a b link R P E (troubles.LogRefused (log_faults.Record number)) goes has why =
    let same = Goes-same SameFiles (λ files. record { same = λ name. refl }) b in (
      record {
        setup = setup;
        image = image;
        stood = HasBasis-before a b b parts setup image SameFiles goes same has;
        refused = why;
        files = goes;
      },
      refl,
    )
IsOutcome-log parts setup image a b link R P E troubles.OutOfMemory goes has why = (goes, refl)
IsOutcome-log parts setup image a b link R P E troubles.ReadFailed goes has why = absurd why
IsOutcome-log parts setup image a b link R P E (troubles.Missing _) goes has why = absurd why
IsOutcome-log parts setup image a b link R P E (troubles.SetupRefused fault) goes has why = absurd why
IsOutcome-log parts setup image a b link R P E (troubles.LogRefused log_faults.NotFresh) goes has why = absurd why
IsOutcome-log parts setup image a b link R P E (troubles.Serving fault) goes has why = absurd why
IsOutcome-log parts setup image a b link R P E (troubles.ResponseRefused fault) goes has why = absurd why
IsOutcome-log parts setup image a b link R P E (troubles.NoRenewal fault) goes has why = absurd why
IsOutcome-log parts setup image a b link R P E (troubles.WordsRefused fault) goes has why = absurd why
IsOutcome-log parts setup image a b link R P E troubles.PhraseRefused goes has why = absurd why
IsOutcome-log parts setup image a b link R P E troubles.ReplaceFailed goes has why = absurd why
IsOutcome-log parts setup image a b link R P E troubles.EndsFailed goes has why = absurd why

-- ---- where the setup or the image was not read

pub IsOutcome-unread : (parts : RecoverParts) (a b : Option Contents) (link : Option Link) (ReadFailed ReplaceFailed EndsFailed : Type 0) (trouble : Trouble) → IsUnreadSetup b parts.setup ReadFailed trouble → Goes SameFiles a b → IsOutcome parts a b link link ReadFailed ReplaceFailed EndsFailed (Err trouble)
IsOutcome-unread parts a b link R P E troubles.ReadFailed why goes = (record { why = why; files = goes }, refl)
IsOutcome-unread parts a b link R P E (troubles.Missing _) why goes = (record { why = why; files = goes }, refl)
IsOutcome-unread parts a b link R P E (troubles.SetupRefused fault) why goes = (record { why = why; files = goes }, refl)
IsOutcome-unread parts a b link R P E (troubles.LogRefused log_faults.NotFresh) why goes = (record { why = why; files = goes }, refl)
IsOutcome-unread parts a b link R P E (troubles.Serving fault) why goes = (record { why = why; files = goes }, refl)
IsOutcome-unread parts a b link R P E (troubles.ResponseRefused fault) why goes = (record { why = why; files = goes }, refl)
IsOutcome-unread parts a b link R P E (troubles.NoRenewal fault) why goes = (record { why = why; files = goes }, refl)
IsOutcome-unread parts a b link R P E (troubles.WordsRefused fault) why goes = (record { why = why; files = goes }, refl)
IsOutcome-unread parts a b link R P E troubles.PhraseRefused why goes = (record { why = why; files = goes }, refl)
IsOutcome-unread parts a b link R P E troubles.OutOfMemory why goes = (goes, refl)
IsOutcome-unread parts a b link R P E (troubles.LogRefused (log_faults.Record number)) why goes = absurd why
IsOutcome-unread parts a b link R P E troubles.ReplaceFailed why goes = absurd why
IsOutcome-unread parts a b link R P E troubles.EndsFailed why goes = absurd why

-- ---- what is written

pub IsOutcome-spares : (parts : RecoverParts) (a b : Option Contents) (before after : Option Link) (ReadFailed ReplaceFailed EndsFailed : Type 0) (result : Result Recovery Trouble) → IsOutcome parts a b before after ReadFailed ReplaceFailed EndsFailed result → Goes (Spares parts) a b
IsOutcome-spares parts a b before after R P E (Ok recovery) h = written-spares parts h.texts a b h.made.setup_file h.made.log_file h.put.1
IsOutcome-spares parts a b before after R P E (Err troubles.EndsFailed) h = written-spares parts h.texts a b h.made.setup_file h.made.log_file h.put.1
IsOutcome-spares parts a b before after R P E (Err troubles.ReplaceFailed) h = may_be_written-spares parts h.texts a b h.made.setup_file h.made.log_file h.put.1
IsOutcome-spares parts a b before after R P E (Err (troubles.LogRefused (log_faults.Record number))) h = same-spares parts a b h.0.files
IsOutcome-spares parts a b before after R P E (Err troubles.OutOfMemory) h = same-spares parts a b h.0
IsOutcome-spares parts a b before after R P E (Err troubles.ReadFailed) h = same-spares parts a b h.0.files
IsOutcome-spares parts a b before after R P E (Err (troubles.Missing _)) h = same-spares parts a b h.0.files
IsOutcome-spares parts a b before after R P E (Err (troubles.SetupRefused fault)) h = same-spares parts a b h.0.files
IsOutcome-spares parts a b before after R P E (Err (troubles.LogRefused log_faults.NotFresh)) h = same-spares parts a b h.0.files
IsOutcome-spares parts a b before after R P E (Err (troubles.Serving fault)) h = same-spares parts a b h.0.files
IsOutcome-spares parts a b before after R P E (Err (troubles.ResponseRefused fault)) h = same-spares parts a b h.0.files
IsOutcome-spares parts a b before after R P E (Err (troubles.NoRenewal fault)) h = same-spares parts a b h.0.files
IsOutcome-spares parts a b before after R P E (Err (troubles.WordsRefused fault)) h = same-spares parts a b h.0.files
IsOutcome-spares parts a b before after R P E (Err troubles.PhraseRefused) h = same-spares parts a b h.0.files

pub IsOutcome-unwritten : (parts : RecoverParts) (a b : Option Contents) (before after : Option Link) (ReadFailed ReplaceFailed EndsFailed : Type 0) (result : Result Recovery Trouble) → IsOutcome parts a b before after ReadFailed ReplaceFailed EndsFailed result → may_be_written result ≡ false → Goes SameFiles a b
IsOutcome-unwritten parts a b before after R P E (Ok recovery) h none = absurd cc
IsOutcome-unwritten parts a b before after R P E (Err troubles.EndsFailed) h none = absurd cc
IsOutcome-unwritten parts a b before after R P E (Err troubles.ReplaceFailed) h none = absurd cc
IsOutcome-unwritten parts a b before after R P E (Err (troubles.LogRefused (log_faults.Record number))) h none = h.0.files
IsOutcome-unwritten parts a b before after R P E (Err troubles.OutOfMemory) h none = h.0
IsOutcome-unwritten parts a b before after R P E (Err troubles.ReadFailed) h none = h.0.files
IsOutcome-unwritten parts a b before after R P E (Err (troubles.Missing _)) h none = h.0.files
IsOutcome-unwritten parts a b before after R P E (Err (troubles.SetupRefused fault)) h none = h.0.files
IsOutcome-unwritten parts a b before after R P E (Err (troubles.LogRefused log_faults.NotFresh)) h none = h.0.files
IsOutcome-unwritten parts a b before after R P E (Err (troubles.Serving fault)) h none = h.0.files
IsOutcome-unwritten parts a b before after R P E (Err (troubles.ResponseRefused fault)) h none = h.0.files
IsOutcome-unwritten parts a b before after R P E (Err (troubles.NoRenewal fault)) h none = h.0.files
IsOutcome-unwritten parts a b before after R P E (Err (troubles.WordsRefused fault)) h none = h.0.files
IsOutcome-unwritten parts a b before after R P E (Err troubles.PhraseRefused) h none = h.0.files
