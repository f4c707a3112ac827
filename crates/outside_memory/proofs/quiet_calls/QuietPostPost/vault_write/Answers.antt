use Rattle.std.proofs.Common.{rules}
use Rattle.outside_memory.specs.Script.{plan_of}
use Rattle.outside_memory.proofs.Counted.{counts_ceased, counts_done_if}
use Rattle.outside_memory.proofs.quiet_calls.QuietPostPost.vault_write.Goals as goal

pub invariant_of-self-2-clause-counted : goal.invariant_of-self-2-clause-counted
invariant_of-self-2-clause-counted c =
    c.act_if.ensures.came c.args.self.now.came c.args.self.now.counted (search rules)

pub invariant_of-self-2-clause-told : goal.invariant_of-self-2-clause-told
invariant_of-self-2-clause-told c =
    counts_done_if _ (plan_of c.args.self.now.scripts.items) c.args.self.now.transcript c.act_if.new.self _ (search rules) (search rules) (search rules) (search rules) c.act_if.ensures.did c.act_if.ensures.silent c.args.self.now.told

pub invariant_of-self : goal.invariant_of-self
invariant_of-self c = record {
  in_scripts = c.args.self.now.in_scripts;
  some_moment = c.args.self.now.some_moment;
  counted = c.cease.ensures.came c.args.self.now.came;
  told = counts_ceased _ _ (c.cease.ensures.silent (plan_of c.args.self.now.scripts.items));
  fixed = search (rules, c.write.ensures.fixed, c.args.self.now.fixed);
  taken = c.cease.ensures.taken c.args.self.now.taken;
}
