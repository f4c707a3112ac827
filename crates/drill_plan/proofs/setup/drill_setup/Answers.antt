use Rattle.std.proofs.lemmas.Bool.{false≢true}
use Rattle.drill_plan.proofs.Setups.{drill_in_range}
use Rattle.drill_plan.proofs.setup.drill_setup.Goals as goal

pub unreachable-requires : goal.unreachable-requires
unreachable-requires c = absurd (false≢true (c.in-Err.ensures.refused.1 (drill_in_range c.args.n c.in_ok-drill_parts.field-0 c.requires.low c.requires.high c.in_ok-drill_parts.ensures)))
