use Rattle.std.proofs.Common.{◌≡◌, true, false}
use Rattle.std.proofs.lemmas.Bool.{false≢true}
use Rattle.request_catalogue.specs.Texts.{is_name}
use Rattle.drill_plan.proofs.early.nobody.Goals as goal

pub unreachable-requires : goal.unreachable-requires
unfolding is_name
unreachable-requires c = let h : false ≡ true = c.in-None.ensures.rule in absurd (false≢true h)
