use Rattle.outside_memory.proofs.RepeatingLemmas.{length-items_after}
use Rattle.std.proofs.Common.{arith, refl}
use Rattle.outside_memory.specs.Script.{plan_of}
use Rattle.outside_memory.proofs.Counted.{counts_done}
use Rattle.outside_memory.proofs.quiet_calls.QuietPostPost.now.Goals as goal

pub invariant_of-self : goal.invariant_of-self
invariant_of-self c = record {
  in_scripts = c.args.self.now.in_scripts;
  some_moment = rw c.take.ensures.after (length-items_after c.args.self.now.moments c.args.self.now.some_moment);
  counted = λ t. omega (arith, c.act.ensures.came c.args.self.now.came c.args.self.now.counted t);
  told = counts_done _ _ _ _ refl refl refl refl (c.act.ensures.did (plan_of c.args.self.now.scripts.items)) c.args.self.now.told;
  fixed = c.args.self.now.fixed;
  taken = c.act.ensures.taken c.args.self.now.taken;
}
