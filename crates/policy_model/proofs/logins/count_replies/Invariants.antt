use Rattle.std.proofs.Common.{◌≡◌, ◌≤◌, length, take}
use Rattle.policy_model.specs.Logins.{replies_of}
use Rattle.policy_model.proofs.logins.count_replies.Given as goal

abbrev pub invariant-loop-i : goal.invariant-loop-i
invariant-loop-i l = (l.count ≡ length (replies_of (take l.i l.journal) l.user)) × (l.count ≤ l.i)
