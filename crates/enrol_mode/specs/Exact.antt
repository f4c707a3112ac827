-- Believed: when the mode `enrol` has to end so.
use Rattle.std.specs.Prelude.{◌≡◌, ◌⊎◌, ℕ, List, Option, Some, None, Result, Ok, Err}
use Rattle.outside.specs.Link.{Link}
use Rattle.trouble.specs.declared.trouble.Trouble.{Trouble}
use Rattle.trouble.specs.declared.trouble.Trouble.TheVariants as troubles
use Rattle.otp_mode.specs.Exact.{HasPhrase}

-- without a phrase in the input it is refused, unless the ends fail; with one, `enrol` succeeds, unless the ends fail
-- or memory runs out
pub record IsExact (before after : Option Link) (EndsFailed : Type 0) (result : Result (Unit {0}) Trouble)
    : Type 0 where
  pub phrase_refused : HasPhrase before after None
      → (result ≡ Err troubles.PhraseRefused) ⊎ (result ≡ Err troubles.EndsFailed)
  pub complete : (phrase : List ℕ) → HasPhrase before after (Some phrase) → (EndsFailed → ⊥)
      → (result ≡ Ok tt) ⊎ (result ≡ Err troubles.OutOfMemory)
