-- Inner: the files of a row.
use Rattle.std.specs.Prelude.{codes}
use Rattle.recover_mode.specs.Words.{RecoverParts}

abbrev pub row_parts : RecoverParts
row_parts = record { setup = codes "setup"; log = codes "log" }
