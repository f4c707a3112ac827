use Rattle.std.proofs.Common.{refl}
use Rattle.outside_memory.specs.Script.{plan_of}
use Rattle.outside_memory.proofs.Counted.{counts_closed}
use Rattle.outside_memory.proofs.calls.MemPostPost.finish.Goals as goal

pub invariant_of-self-clause-counted : goal.invariant_of-self-clause-counted
invariant_of-self-clause-counted c =
    c.finish.ensures.came c.args.self.now.came c.args.self.now.counted

pub invariant_of-self-clause-told : goal.invariant_of-self-clause-told
invariant_of-self-clause-told c =
    counts_closed _ _ (plan_of c.args.self.now.scripts.items) c.args.self.now.transcript c.finish.new.self c.args.self.now.faults _ c.finish.ensures.gains c.finish.ensures.silent refl refl refl refl c.args.self.now.told
