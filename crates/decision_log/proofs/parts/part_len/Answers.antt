use Rattle.std.proofs.Common.{sym, ◌∙◌, arith}
use Rattle.std.proofs.lemmas.List.Sums.{position_or_len_is}
use Rattle.decision_log.specs.Parts.{ends_part}
use Rattle.decision_log.proofs.parts.part_len.Goals as goal

pub returns-else-not-ends_part-clause-len : goal.returns-else-not-ends_part-clause-len
returns-else-not-ends_part-clause-len c =
    sym (position_or_len_is ends_part c.args.text.now c.loop-len.len 0 c.loop-len.invariant.within c.loop-len.invariant.before (λ lt. sym c.ends_part.ensures ∙ c.if-not-ends_part.false))

pub returns-after-loop-len-clause-len : goal.returns-after-loop-len-clause-len
returns-after-loop-len-clause-len c =
    sym (position_or_len_is ends_part c.args.text.now c.loop-len.len 0 c.loop-len.invariant.within c.loop-len.invariant.before (λ lt. absurd (omega (arith, lt, c.loop-len-test.false))))
