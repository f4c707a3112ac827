use Rattle.std.proofs.Common.{arith}
use Rattle.outside_memory.proofs.transcript.Transcript.finish.Goals as goal

pub returns-clause-came : goal.returns-clause-came
returns-clause-came c = λ n h. c.talk.ensures.came n (λ t. omega (arith, c.act.ensures.came n h t))
