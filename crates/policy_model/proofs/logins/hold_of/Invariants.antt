use Rattle.std.proofs.Common.{◌≡◌, take}
use Rattle.policy_model.specs.Logins.{last_taking_of, was_given_up}
use Rattle.policy_model.proofs.logins.hold_of.Given as goal

abbrev pub invariant-loop-event : goal.invariant-loop-event
invariant-loop-event l = (l.hold.taking ≡ last_taking_of (take l.event-index l.journal) l.user) × (l.hold.given_up ≡ was_given_up (take l.event-index l.journal) l.user)
