use Rattle.std.proofs.Common.{◌&&◌, ◌||◌, not, cond, Some, sym, ap, ◌∙◌}
use Rattle.policy_model.specs.Asks.{gives_up, reserves}
use Rattle.policy_model.specs.Journal.{is_own}
use Rattle.policy_model.specs.Logins.{last_taking_of, session_taking, was_given_up}
use Rattle.policy_model.proofs.Lists.{turn}
use Rattle.policy_model.proofs.LoginLemmas.{last_taking_of-none, last_taking_of-push, was_given_up-none, was_given_up-push}
use Rattle.policy_model.proofs.logins.hold_of.Goals as goal

pub loop-event-init : goal.loop-event-init
loop-event-init c = (sym (last_taking_of-none c.args.user.now), sym (was_given_up-none c.args.user.now))

pub loop-event-preserved : goal.loop-event-preserved
loop-event-preserved c =
    let user = c.args.user.now in
    let e = c.event-item.result in
    let hold = c.loop-event.hold in (
      c.later.ensures
          ∙ ap (λ b. cond b (Some e) hold.taking) c.reserves.ensures
          ∙ turn (λ j. last_taking_of j user) (λ j x taking. cond (reserves user x) (Some x) taking) (last_taking_of-push user) c.args.journal.now c.loop-event.event-index e e hold.taking c.loop-event-test.true c.event-item.is c.loop-event.invariant.0,
      c.given_up_after.ensures
          ∙ ap (λ o. not (reserves user e) && (hold.given_up || is_own (session_taking o) gives_up e)) c.loop-event.invariant.0
          ∙ turn (λ j. was_given_up j user) (λ j x given_up. not (reserves user x) && (given_up || is_own (session_taking (last_taking_of j user)) gives_up x)) (was_given_up-push user) c.args.journal.now c.loop-event.event-index e e hold.given_up c.loop-event-test.true c.event-item.is c.loop-event.invariant.1,
    )
