use Rattle.std.proofs.Common.{rules}
use Rattle.outside_memory.specs.Script.{plan_of}
use Rattle.outside_memory.proofs.Counted.{counts_done_if}
use Rattle.outside_memory.proofs.quiet_calls.QuietPostPost.conn_recv.Goals as goal

pub invariant_of-self-clause-counted : goal.invariant_of-self-clause-counted
invariant_of-self-clause-counted c =
    c.act_if.ensures.came c.args.self.now.came c.args.self.now.counted (search rules)

pub invariant_of-self-clause-told : goal.invariant_of-self-clause-told
invariant_of-self-clause-told c =
    counts_done_if _ (plan_of c.args.self.now.scripts.items) c.args.self.now.transcript c.act_if.new.self _ (search rules) (search rules) (search rules) (search rules) c.act_if.ensures.did c.act_if.ensures.silent c.args.self.now.told
