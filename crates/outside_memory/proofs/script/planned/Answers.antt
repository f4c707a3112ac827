use Rattle.std.proofs.Common.{ap, arith, sym, ◌∙◌}
use Rattle.outside.specs.Scene.{bytes_for}
use Rattle.outside_memory.proofs.ScriptLemmas.{bytes_at-plan_of}
use Rattle.outside_memory.proofs.script.planned.Goals as goal

pub returns-in-Pre : goal.returns-in-Pre
returns-in-Pre c =
    let script = c.index-scripts-came.result in
    c.as_slice.ensures ∙ sym (bytes_at-plan_of c.args.role c.args.scripts.now c.args.came script (omega arith) c.requires c.index-scripts-came.is ∙ ap (λ r. bytes_for r (script.pre, script.user)) c.in-Pre.is)

pub returns-in-User : goal.returns-in-User
returns-in-User c =
    let script = c.index-scripts-came.result in
    c.as_slice-in-User.ensures ∙ sym (bytes_at-plan_of c.args.role c.args.scripts.now c.args.came script (omega arith) c.requires c.index-scripts-came.is ∙ ap (λ r. bytes_for r (script.pre, script.user)) c.in-User.is)
