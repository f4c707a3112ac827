use Rattle.std.proofs.Common.{ap, subst, sym, ◌∙◌, ◌≡◌}
use Rattle.session_table.specs.Files.{IsNewHandle, open_decision}
use Rattle.session_table.specs.Judging.{IsOpenVerdict}
use Rattle.session_table.proofs.FileLemmas.{open_is_new}
use Rattle.session_table.proofs.VerdictLemmas.{is_open_verdict}
use Rattle.session_table.proofs.handles.Handles.judge_open.Goals as goal

pub returns-clause-value : goal.returns-clause-value
returns-clause-value c = c.judge_open.ensures ∙ ap (λ live. open_decision live c.as_slice-2.result.now c.args.mode c.args.name.now) (c.as_slice.ensures.value ∙ c.self.view_is) ∙ ap (λ grants. open_decision c.args.self.now grants c.args.mode c.args.name.now) c.as_slice-2.ensures

pub returns-clause-new : goal.returns-clause-new
returns-clause-new c =
    let value : c.judge_open.result ≡ open_decision c.args.self.now c.args.grants.now c.args.mode c.args.name.now = c.judge_open.ensures ∙ ap (λ live. open_decision live c.as_slice-2.result.now c.args.mode c.args.name.now) (c.as_slice.ensures.value ∙ c.self.view_is) ∙ ap (λ grants. open_decision c.args.self.now grants c.args.mode c.args.name.now) c.as_slice-2.ensures in
    subst (IsNewHandle c.args.self.now) (sym value) (open_is_new c.args.self.now c.args.grants.now c.args.mode c.args.name.now)

pub returns-clause-verdict : goal.returns-clause-verdict
returns-clause-verdict c =
    let value : c.judge_open.result ≡ open_decision c.args.self.now c.args.grants.now c.args.mode c.args.name.now = c.judge_open.ensures ∙ ap (λ live. open_decision live c.as_slice-2.result.now c.args.mode c.args.name.now) (c.as_slice.ensures.value ∙ c.self.view_is) ∙ ap (λ grants. open_decision c.args.self.now grants c.args.mode c.args.name.now) c.as_slice-2.ensures in
    subst (IsOpenVerdict c.args.self.now c.args.grants.now c.args.mode c.args.name.now) (sym value) (is_open_verdict c.args.self.now c.args.grants.now c.args.mode c.args.name.now)
