use Rattle.std.proofs.Common.{◌≡◌, nat_eq, take}
use Rattle.std.specs.List.{list_any}
use Rattle.policy_model.specs.Logins.{replies_of}
use Rattle.policy_model.proofs.logins.was_replied.Given as goal

abbrev pub invariant-loop-i : goal.invariant-loop-i
invariant-loop-i l = l.found ≡ list_any (nat_eq l.password) (replies_of (take l.i l.journal) l.user)
