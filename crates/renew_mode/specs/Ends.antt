-- Inner: how far the mode `renew` came.
use Rattle.std.specs.Prelude.{Bool, true, false, Result, Ok, Err}
use Rattle.otp_extended.specs.declared.renewal.Renewed.{Renewed}
use Rattle.trouble.specs.declared.trouble.Trouble.{Trouble}
use Rattle.trouble.specs.declared.trouble.Trouble.TheVariants as troubles

-- whether the mode ended at its files, before the input was asked for; where memory ran out this isn't told
abbrev pub ends_before_input : Result Renewed Trouble → Bool
ends_before_input (Err troubles.ReadFailed) = true
ends_before_input (Err (troubles.Missing file)) = true
ends_before_input (Err (troubles.SetupRefused fault)) = true
ends_before_input (Err (troubles.WordsRefused fault)) = true
ends_before_input (Err (troubles.LogRefused fault)) = true
ends_before_input _ = false

-- whether the setup's file may be another than before: it was written, or could not be replaced, or the ends failed
abbrev pub may_be_written : Result Renewed Trouble → Bool
may_be_written (Ok renewed) = true
may_be_written (Err troubles.ReplaceFailed) = true
may_be_written (Err troubles.EndsFailed) = true
may_be_written (Err _) = false
