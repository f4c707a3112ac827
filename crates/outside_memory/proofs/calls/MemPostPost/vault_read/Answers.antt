use Rattle.std.proofs.Common.{arith, refl, rules}
use Rattle.outside_memory.specs.Script.{plan_of}
use Rattle.outside_memory.proofs.Counted.{counts_did, counts_done_if}
use Rattle.outside_memory.proofs.calls.MemPostPost.vault_read.Goals as goal

pub invariant_of-self : goal.invariant_of-self
invariant_of-self c = record {
  in_scripts = c.args.self.now.in_scripts;
  each_cut = c.args.self.now.each_cut;
  some_cut = c.args.self.now.some_cut;
  some_moment = c.args.self.now.some_moment;
  counted = λ t. omega (arith, c.act.ensures.came c.args.self.now.came c.args.self.now.counted t);
  told = counts_did _ _ _ _ _ (c.act.ensures.did (plan_of c.args.self.now.scripts.items)) (record { accept = refl; keeper = refl; conn = refl; vault = c.saturating_add-self-then-is_some.ensures }) c.args.self.now.told;
}

pub invariant_of-self-2 : goal.invariant_of-self-2
invariant_of-self-2 c = record {
  in_scripts = c.args.self.now.in_scripts;
  each_cut = c.args.self.now.each_cut;
  some_cut = c.args.self.now.some_cut;
  some_moment = c.args.self.now.some_moment;
  counted = c.act_if.ensures.came c.args.self.now.came c.args.self.now.counted (search rules);
  told = counts_done_if _ (plan_of c.args.self.now.scripts.items) c.args.self.now.transcript c.act_if.new.self c.args.self.now.faults (search rules) (search rules) (search rules) (search rules) c.act_if.ensures.did c.act_if.ensures.silent c.args.self.now.told;
}
