use Rattle.std.proofs.Common.{ap, subst, sym, ◌∙◌}
use Rattle.session_table.specs.Files.{close_decision}
use Rattle.session_table.specs.Judging.{IsCloseVerdict}
use Rattle.session_table.proofs.VerdictLemmas.{is_close_verdict}
use Rattle.session_table.proofs.handles.Handles.judge_close.Goals as goal

pub returns-clause-verdict : goal.returns-clause-verdict
returns-clause-verdict c =
    subst (IsCloseVerdict c.args.self.now c.args.handle)
    (sym (c.judge_close.ensures ∙ ap (λ live. close_decision live c.args.handle) (c.as_slice.ensures.value ∙ c.self.view_is)))
    (is_close_verdict c.args.self.now c.args.handle)
