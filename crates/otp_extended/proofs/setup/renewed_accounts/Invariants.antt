use Rattle.std.proofs.Common.{◌≡◌, take}
use Rattle.otp_extended.specs.Renewals.{accounts_with}
use Rattle.otp_extended.proofs.setup.renewed_accounts.Given as goal

abbrev pub invariant-loop-i : goal.invariant-loop-i
invariant-loop-i l = l.items.items ≡ take l.i (accounts_with l.accounts l.new.account l.new)
