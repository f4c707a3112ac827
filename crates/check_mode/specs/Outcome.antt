-- Believed: what the mode `check` came to, and why.
use Rattle.std.specs.Prelude.{◌≡◌, ℕ, Bool, true, false, List, [], Option, Result, Err, IfSome}
use Rattle.outside.specs.Files.{Contents}
use Rattle.outside.specs.Link.{Exchanged, Link, SendsPart}
use Rattle.outside.specs.Told.{Goes}
use Rattle.info_hooks.specs.declared.key.Key.{Key}
use Rattle.trouble.specs.declared.trouble.Trouble.{Trouble}
use Rattle.trouble.specs.declared.trouble.Trouble.TheVariants as troubles
use Rattle.check_mode.specs.declared.finding.Finding.{Finding}
use Rattle.check_mode.specs.Findings.{found_in, is_told}
use Rattle.check_mode.specs.Lines.{line_of}

-- a line tells this, and the files, if they report, say it of the setup in the named file
abbrev pub IsFound : List Key → Option Contents → List ℕ → Result Finding Trouble → Type 0
IsFound forms contents name found =
    (is_told found ≡ true) × IfSome contents (λ files. found_in forms files name ≡ found)

-- what each end of `check` means: what was found was sent, whole or in part, or nothing was sent
abbrev pub IsOutcome : List Key → List ℕ → Option Contents → Option Link → Option Link → Type 0 → Type 0
    → Result Finding Trouble → Type 0
IsOutcome forms name contents before after ReadFailed EndsFailed (Err troubles.ReadFailed) =
    ReadFailed × (after ≡ before)
IsOutcome forms name contents before after ReadFailed EndsFailed (Err troubles.OutOfMemory) = after ≡ before
IsOutcome forms name contents before after ReadFailed EndsFailed (Err troubles.EndsFailed) =
    EndsFailed × ((found : Result Finding Trouble) × IsFound forms contents name found
    × SendsPart (line_of found) before after)
IsOutcome forms name contents before after ReadFailed EndsFailed result =
    IsFound forms contents name result × Goes (Exchanged [] (line_of result)) before after

-- whether the mode ended before its line
abbrev pub ends_before_line : Result Finding Trouble → Bool
ends_before_line (Err troubles.ReadFailed) = true
ends_before_line (Err troubles.OutOfMemory) = true
ends_before_line _ = false
