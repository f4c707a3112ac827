use Rattle.std.proofs.Common.{◌≡◌, ◌++◌, ◌-◌}
use Rattle.std.specs.List.{flat_map, range_with_len}
use Rattle.std.specs.String.{string_bytes}
use Rattle.drill_mode.specs.declared.counted.Counted.TheVariants.{Rule}
use Rattle.drill_mode.specs.CountsText.{line_where_some}
use Rattle.drill_mode.proofs.text.push_rules.Given as goal

abbrev pub invariant-loop-rule : goal.invariant-loop-rule
invariant-loop-rule l = string_bytes l.text ≡ string_bytes l.fn.text ++ flat_map (λ rule. line_where_some l.journal (Rule rule)) (range_with_len 1 (l.rule - 1))
