use Rattle.audit_check.specs.History.{IsRenewedTo}
use Rattle.audit_check.proofs.history.renew.Given as goal

abbrev pub invariant-loop-i : goal.invariant-loop-i
invariant-loop-i l = IsRenewedTo l.accounts l.event l.i l.initial.holds.items l.holds.items
