-- Inner: how far the mode `recover` came.
use Rattle.std.specs.Prelude.{Bool, true, false, Result, Ok, Err}
use Rattle.trouble.specs.declared.trouble.Trouble.{Trouble}
use Rattle.trouble.specs.declared.trouble.Trouble.TheVariants as troubles
use Rattle.recover_mode.specs.declared.line.Recovery.{Recovery}

-- whether the mode ended before its line
abbrev pub ends_before_line : Result Recovery Trouble → Bool
ends_before_line (Ok recovery) = false
ends_before_line (Err troubles.EndsFailed) = false
ends_before_line (Err _) = true

-- whether files may be others than before: they were written, or could not be replaced
abbrev pub may_be_written : Result Recovery Trouble → Bool
may_be_written (Ok recovery) = true
may_be_written (Err troubles.ReplaceFailed) = true
may_be_written (Err troubles.EndsFailed) = true
may_be_written (Err _) = false
