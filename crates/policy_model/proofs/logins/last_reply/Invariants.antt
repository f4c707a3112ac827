use Rattle.std.proofs.Common.{◌≡◌, None, take}
use Rattle.std.specs.List.{last_or}
use Rattle.policy_model.specs.Logins.{replies_of}
use Rattle.policy_model.proofs.logins.last_reply.Given as goal

abbrev pub invariant-loop-i : goal.invariant-loop-i
invariant-loop-i l = l.last ≡ last_or None (replies_of (take l.i l.journal) l.user)
