-- Believed: ends of sessions that are no doing of their children.
use Rattle.std.specs.Prelude.{Bool, true, false, ◌||◌}
use Rattle.policy_model.specs.declared.event.Ask.{Ask}
use Rattle.policy_model.specs.declared.event.Ask.TheVariants.{End}
use Rattle.policy_model.specs.declared.event.Why.TheVariants.{LinkFault, KeeperFault, LogLost}

-- a session's end because a child's link failed
abbrev pub is_link_end : Ask → Bool
is_link_end (End LinkFault) = true
is_link_end _ = false

-- a session's end because a child could not be started
abbrev pub is_keeper_end : Ask → Bool
is_keeper_end (End KeeperFault) = true
is_keeper_end _ = false

-- a session's end because a decision was lost
abbrev pub is_lost_end : Ask → Bool
is_lost_end (End LogLost) = true
is_lost_end _ = false

-- a session's end by a failed link, a failed start or a lost decision
abbrev pub is_fault_end : Ask → Bool
is_fault_end ask = is_link_end ask || is_keeper_end ask || is_lost_end ask
