use Rattle.std.proofs.Common.{◌≡◌, take}
use Rattle.policy_model.specs.Asks.{is_login_step}
use Rattle.policy_model.specs.Journal.{last_event}
use Rattle.policy_model.proofs.journal.last_login_step.Given as goal

abbrev pub invariant-loop-event : goal.invariant-loop-event
invariant-loop-event l = l.last ≡ last_event (take l.event-index l.journal) l.session is_login_step
