use Rattle.std.proofs.Common.{ap, subst, sym, ◌∙◌}
use Rattle.session_table.specs.Files.{use_decision}
use Rattle.session_table.specs.Judging.{IsUseVerdict}
use Rattle.session_table.proofs.VerdictLemmas.{is_use_verdict}
use Rattle.session_table.proofs.handles.Handles.judge_use.Goals as goal

pub returns-clause-verdict : goal.returns-clause-verdict
returns-clause-verdict c =
    subst (IsUseVerdict c.args.self.now c.args.handle c.args.needed)
    (sym (c.judge_use.ensures ∙ ap (λ live. use_decision live c.args.handle c.args.needed) (c.as_slice.ensures.value ∙ c.self.view_is)))
    (is_use_verdict c.args.self.now c.args.handle c.args.needed)
