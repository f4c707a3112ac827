use Rattle.std.proofs.Common.{◌≡◌, ◌++◌, take}
use Rattle.std.specs.List.{flat_map}
use Rattle.std.specs.String.{string_bytes}
use Rattle.drill_mode.specs.CountsText.{line_in}
use Rattle.drill_mode.proofs.text.push_totals.Given as goal

abbrev pub invariant-loop-total : goal.invariant-loop-total
invariant-loop-total l = string_bytes l.text ≡ string_bytes l.fn.text ++ flat_map (line_in l.journal) (take l.total-index l.total-items)
