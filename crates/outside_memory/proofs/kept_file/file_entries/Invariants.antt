use Rattle.std.proofs.Common.{◌≡◌, map, take}
use Rattle.outside_memory.specs.KeptFile.{file_entry}
use Rattle.outside_memory.proofs.kept_file.file_entries.Given as goal

abbrev pub invariant-loop-name : goal.invariant-loop-name
invariant-loop-name l = l.files.items ≡ map file_entry (take l.name-index l.pairs)
