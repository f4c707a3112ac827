use Rattle.std.proofs.Common.{◌≡◌, take}
use Rattle.policy_model.proofs.account.Accounts.copy.Given as goal

abbrev pub invariant-loop-account : goal.invariant-loop-account
invariant-loop-account l = l.items.items ≡ take l.account-index l.account-items
