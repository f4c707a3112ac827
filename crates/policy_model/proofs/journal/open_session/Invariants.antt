use Rattle.std.proofs.Common.{◌≡◌, take}
use Rattle.policy_model.specs.Journal.{open_session_of}
use Rattle.policy_model.proofs.journal.open_session.Given as goal

abbrev pub invariant-loop-event : goal.invariant-loop-event
invariant-loop-event l = l.session ≡ open_session_of (take l.event-index l.journal) l.worker
