use Rattle.std.proofs.Common.{◌∙◌, false, refl, rules}
use Rattle.outside.specs.declared.act.Act.TheVariants.{ConnSend}
use Rattle.outside.specs.Scene.{is_failed_conn}
use Rattle.outside_memory.specs.Script.{plan_of}
use Rattle.outside_memory.proofs.Counted.{counts_acted_if, sending_counts}
use Rattle.outside_memory.proofs.calls.MemPostPost.conn_send.Goals as goal

pub invariant_of-self : goal.invariant_of-self
invariant_of-self c = record {
  in_scripts = c.args.self.now.in_scripts;
  each_cut = c.args.self.now.each_cut;
  some_cut = c.args.self.now.some_cut;
  some_moment = c.args.self.now.some_moment;
  counted = c.act_if.ensures.came c.args.self.now.came c.args.self.now.counted (search rules);
  told = counts_acted_if _ (plan_of c.args.self.now.scripts.items) c.args.self.now.transcript c.act_if.new.self c.args.self.now.faults _ false false (is_failed_conn (ConnSend c.args.bytes.now c.match-find_failure.outcome)) false (search rules) (search rules) (search rules) (search rules) refl refl (c.count_after-self.ensures ∙ sending_counts c.args.bytes.now c.match-find_failure.outcome c.args.self.now.faults.conn) refl c.act_if.ensures.did c.act_if.ensures.silent c.args.self.now.told;
}
