use Rattle.std.proofs.Common.{arith, refl}
use Rattle.outside_memory.specs.Script.{plan_of}
use Rattle.outside_memory.proofs.Counted.{counts_done}
use Rattle.outside_memory.proofs.quiet_calls.QuietPostPost.start.Goals as goal

pub invariant_of-self-clause-counted : goal.invariant_of-self-clause-counted
invariant_of-self-clause-counted c =
    λ t. omega (arith, c.act.ensures.came c.args.self.now.came c.args.self.now.counted t)

pub invariant_of-self-clause-told : goal.invariant_of-self-clause-told
invariant_of-self-clause-told c =
    counts_done _ _ _ _ refl refl refl refl (c.act.ensures.did (plan_of c.args.self.now.scripts.items)) c.args.self.now.told
