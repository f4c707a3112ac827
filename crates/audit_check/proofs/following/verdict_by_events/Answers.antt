use Rattle.std.proofs.Common.{◌∙◌, sym}
use Rattle.audit_check.proofs.Recent.{recent_verdict}
use Rattle.audit_check.proofs.following.verdict_by_events.Goals as goal

pub returns-then-is_local : goal.returns-then-is_local
returns-then-is_local c = λ events kept.
    c.judge.ensures.verdict
    ∙ recent_verdict c.args.setup.now events c.recent-recent.result.now c.args.event.now.worker c.args.event.now.ask (c.recent-recent.ensures c.args.setup.now events kept) (sym c.is_local.ensures ∙ c.if-is_local.true)
