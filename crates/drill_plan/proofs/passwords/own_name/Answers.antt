use Rattle.std.proofs.Common.{ap, ◌∙◌}
use Rattle.std.proofs.lemmas.Bool.{false≢true}
use Rattle.request_catalogue.specs.Texts.{is_name}
use Rattle.drill_plan.proofs.Users.{is_own_name}
use Rattle.drill_plan.proofs.passwords.own_name.Goals as goal

pub unreachable-requires : goal.unreachable-requires
unreachable-requires c = absurd (false≢true (c.in-None.ensures.rule ∙ ap is_name (c.as_slice.ensures.value ∙ c.numbered.ensures) ∙ is_own_name c.args.worker c.requires))
