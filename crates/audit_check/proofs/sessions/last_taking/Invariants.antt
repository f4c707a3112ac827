use Rattle.std.proofs.Common.{◌≡◌, take}
use Rattle.policy_model.specs.Asks.{takes}
use Rattle.policy_model.specs.Journal.{last_event}
use Rattle.audit_check.proofs.sessions.last_taking.Given as goal

abbrev pub invariant-loop-event : goal.invariant-loop-event
invariant-loop-event l = l.last ≡ last_event (take l.event-index l.events) l.session takes
