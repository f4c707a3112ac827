use Rattle.std.proofs.Common.{◌∙◌, [], ap, sym}
use Rattle.policy_model.specs.Journal.{open_session_of}
use Rattle.policy_model.specs.Verdict.{user_verdict}
use Rattle.audit_check.proofs.KeptLemmas.{silent_decoy, silent_user}
use Rattle.audit_check.proofs.accounts.judge_reply.Goals as goal

pub returns-then-is_decoy : goal.returns-then-is_decoy
returns-then-is_decoy c = λ events kept some.
    silent_decoy c.args.setup.now events (open_session_of events c.args.worker) c.login_of-taking.result
    (c.login_of-taking.ensures c.args.setup.now events kept some) (sym c.is_decoy.ensures ∙ c.if-is_decoy.true)

pub returns-in-None : goal.returns-in-None
returns-in-None c = λ events kept some.
    silent_user c.args.setup.now events (open_session_of events c.args.worker) c.login_of-taking.result _
    (c.login_of-taking.ensures c.args.setup.now events kept some) (sym c.is_decoy.ensures ∙ c.if-is_decoy.false) (sym c.user_named.ensures ∙ c.in-None.is)

pub returns-in-Some : goal.returns-in-Some
returns-in-Some c = λ events kept some.
    c.judge_user.ensures events kept
    ∙ ap (λ n. user_verdict c.args.setup.now events n [] c.in-Some.user) (c.open_session.ensures ∙ (c.recent.ensures c.args.setup.now events kept).session)
    ∙ silent_user c.args.setup.now events (open_session_of events c.args.worker) c.login_of-taking.result _
    (c.login_of-taking.ensures c.args.setup.now events kept some) (sym c.is_decoy.ensures ∙ c.if-is_decoy.false) (sym c.user_named.ensures ∙ c.in-Some.is)
