use Rattle.std.proofs.Common.{◌∙◌, ap}
use Rattle.policy_model.specs.Asks.{takes}
use Rattle.policy_model.specs.Journal.{last_event}
use Rattle.audit_check.proofs.OwnEvents.{taking_is}
use Rattle.audit_check.proofs.sessions.login_of.Goals as goal

pub returns : goal.returns
returns c = λ setup events kept some.
    c.last_taking.ensures
    ∙ ap (λ n. last_event c.recent-recent.result.now n takes) (c.open_session.ensures ∙ (c.recent-recent.ensures setup events kept).session)
    ∙ taking_is c.recent-recent.result.now events c.args.worker (c.recent-recent.ensures setup events kept) some
