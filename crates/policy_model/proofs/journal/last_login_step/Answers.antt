use Rattle.std.proofs.Common.{cond, Some, ap, ◌∙◌}
use Rattle.policy_model.specs.Asks.{is_login_step}
use Rattle.policy_model.specs.Journal.{is_own}
use Rattle.policy_model.proofs.Lists.{last_turn}
use Rattle.policy_model.proofs.journal.last_login_step.Goals as goal

pub loop-event-preserved : goal.loop-event-preserved
loop-event-preserved c =
    c.later-last.ensures
    ∙ ap (λ b. cond b (Some c.event-item.result) c.loop-event.last) c.is_login_step_of.ensures
    ∙ last_turn (is_own c.args.session is_login_step) c.args.journal.now c.loop-event.event-index c.loop-event.last c.event-item.result c.event-item.result c.loop-event-test.true c.event-item.is c.loop-event.invariant
