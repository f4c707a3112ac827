use Rattle.std.proofs.Common.{◌∙◌, arith}
use Rattle.info_hooks.proofs.TwiceLemmas.{first_more}
use Rattle.info_hooks.proofs.twice.+first_least.Goals as goal

pub returns-in-len1-up : goal.returns-in-len1-up
returns-in-len1-up g t c = c.least_of.ensures ∙ first_more (λ h. h.key) c.args.list.now c.first-item.result c.number-number.result c.stands_in.result c.first_least.result (omega (arith, c.in-len1-up.len_at_least)) c.first-item.is c.number-number.ensures c.stands_in.ensures c.first_least.ensures
