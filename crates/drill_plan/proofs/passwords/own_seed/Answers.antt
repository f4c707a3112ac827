use Rattle.std.proofs.Common.{ap, map, ◌∙◌}
use Rattle.std.specs.Char.{to_ascii_lowercase}
use Rattle.std.proofs.lemmas.Bool.{false≢true}
use Rattle.otp_hash.specs.Seeds.{is_seed_text}
use Rattle.drill_plan.proofs.Users.{is_own_seed, own_seed-lower}
use Rattle.drill_plan.proofs.passwords.own_seed.Goals as goal

pub unreachable-requires : goal.unreachable-requires
unreachable-requires c = absurd (false≢true (c.in-None.ensures.rule ∙ ap is_seed_text (c.as_slice.ensures.value ∙ c.numbered.ensures) ∙ is_own_seed c.args.worker c.requires))

pub returns : goal.returns
returns c = c.in-Some.ensures.found ∙ ap (map to_ascii_lowercase) (c.as_slice.ensures.value ∙ c.numbered.ensures) ∙ own_seed-lower c.args.worker c.requires
