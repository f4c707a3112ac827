use Rattle.std.proofs.Common.{◌∙◌}
use Rattle.policy_model.specs.Asks.{takes}
use Rattle.policy_model.specs.Journal.{is_own}
use Rattle.policy_model.proofs.Lists.{last_turn}
use Rattle.audit_check.proofs.sessions.last_taking.Goals as goal

pub loop-event-preserved : goal.loop-event-preserved
loop-event-preserved c =
    c.later-last.ensures
    ∙ last_turn (is_own c.args.session takes) c.args.events.now c.loop-event.event-index c.loop-event.last c.event-item.result c.event-item.result c.loop-event-test.true c.event-item.is c.loop-event.invariant
