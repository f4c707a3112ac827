use Rattle.std.proofs.Common.{◌∙◌, ap, subst, arith, length, ◌+◌, ◌≡◌, Ok}
use Rattle.policy_model.specs.declared.event.Event.{Event}
use Rattle.audit_check.specs.Events.{event_said}
use Rattle.audit_check.specs.Legal.{MayFollow}
use Rattle.audit_check.specs.Said.{Says}
use Rattle.audit_check.proofs.Fronts.{illegal_by}
use Rattle.audit_check.proofs.SameEvents.{said_shown, said_value}
use Rattle.audit_check.proofs.auditing.next_event.Goals as goal

pub returns-else-may_follow : goal.returns-else-may_follow
returns-else-may_follow c = λ events kept.
    let counted = kept.counted in
    let place : c.in-Ok.logged.number ≡ length events + 1 = omega (arith, c.if-logged-history.false, counted) in
    let says : Says (length events + 1) c.args.line.now (event_said c.in-Ok.logged) = record { read = c.in-Ok.ensures.exact ∙ ap Ok (said_value (length events + 1) c.in-Ok.logged place); shown = said_shown c.in-Ok.logged.what } in
    let event : c.event_said-event.result ≡ event_said c.in-Ok.logged = c.event_said-event.ensures in
    (omega (arith, c.if-history-ge-EVENTS_LIMIT.false, counted), illegal_by c.args.setup.now events c.args.line.now (event_said c.in-Ok.logged) says (subst (λ (e : Event). MayFollow c.args.setup.now events e → ⊥) event (c.if-may_follow.ensures events kept)))
