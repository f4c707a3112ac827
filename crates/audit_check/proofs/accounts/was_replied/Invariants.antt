use Rattle.std.proofs.Common.{◌≡◌, nat_eq, take}
use Rattle.std.specs.List.{list_any}
use Rattle.audit_check.proofs.accounts.was_replied.Given as goal

abbrev pub invariant-loop-reply : goal.invariant-loop-reply
invariant-loop-reply l = l.found ≡ list_any (nat_eq l.password) (take l.reply-index l.replies)
