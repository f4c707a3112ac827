use Rattle.std.proofs.Common.{◌∙◌}
use Rattle.policy_model.proofs.Journals.{open_session_turn}
use Rattle.policy_model.proofs.journal.open_session.Goals as goal

pub loop-event-preserved : goal.loop-event-preserved
loop-event-preserved c =
    c.opened_after-session.ensures ∙ open_session_turn c.args.journal.now c.args.worker c.loop-event.event-index c.loop-event.session c.event-item.result c.event-item.result c.loop-event-test.true c.event-item.is c.loop-event.invariant
