use Rattle.std.proofs.Common.{◌≡◌, map, take}
use Rattle.audit_check.specs.History.{first_hold}
use Rattle.audit_check.proofs.history.first_holds.Given as goal

abbrev pub invariant-loop-account : goal.invariant-loop-account
invariant-loop-account l = l.holds.items ≡ map first_hold (take l.account-index l.accounts)
