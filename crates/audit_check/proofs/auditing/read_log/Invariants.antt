use Rattle.std.proofs.Common.{List, length}
use Rattle.policy_model.specs.declared.event.Event.{Event}
use Rattle.audit_check.specs.History.{IsKept}
use Rattle.audit_check.proofs.Fronts.{Stands}
use Rattle.audit_check.proofs.auditing.read_log.Given as goal

abbrev pub decreases-loop-rest : goal.decreases-loop-rest
decreases-loop-rest l = length l.rest

abbrev pub invariant-loop-rest : goal.invariant-loop-rest
invariant-loop-rest l = record {
  events : List Event;
  stands : Stands l.setup l.text l.rest events;
  kept : IsKept l.setup events l.history;
}
