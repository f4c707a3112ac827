use Rattle.std.proofs.Common.{◌≡◌, All, length}
use Rattle.outside_memory.specs.Blank.{IsRoomy}
use Rattle.outside_memory.proofs.blanks.blank_streams.Given as goal

abbrev pub invariant-loop : goal.invariant-loop
invariant-loop l = (length l.blanks.items ≡ l.counter) × All (IsRoomy l.cuts l.size) l.blanks.items
