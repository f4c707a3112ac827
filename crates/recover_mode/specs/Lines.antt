-- Believed: the line that the mode `recover` sends.
use Rattle.std.specs.Prelude.{ℕ, List, ◌++◌, codes}
use Rattle.std.specs.Fmt.{decimal}
use Rattle.recover_mode.specs.declared.line.Recovery.{Recovery}

-- the line that says what was recovered: how many lines, and how many accepted replies
abbrev pub recovery_line : Recovery → List ℕ
recovery_line r = codes "recovered lines " ++ decimal r.lines ++ codes " accepted " ++ decimal r.accepted ++ codes "\n"
