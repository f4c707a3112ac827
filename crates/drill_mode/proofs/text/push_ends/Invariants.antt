use Rattle.std.proofs.Common.{◌≡◌, ◌++◌, take}
use Rattle.std.specs.List.{flat_map}
use Rattle.std.specs.String.{string_bytes}
use Rattle.drill_mode.specs.declared.counted.Counted.TheVariants.{End}
use Rattle.drill_mode.specs.CountsText.{line_where_some}
use Rattle.drill_mode.proofs.text.push_ends.Given as goal

abbrev pub invariant-loop-kind : goal.invariant-loop-kind
invariant-loop-kind l = string_bytes l.text ≡ string_bytes l.fn.text ++ flat_map (λ kind. line_where_some l.journal (End kind)) (take l.kind-index l.kind-items)
