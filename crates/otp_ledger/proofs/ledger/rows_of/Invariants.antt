use Rattle.std.proofs.Common.{◌≡◌, map, take}
use Rattle.otp_ledger.specs.Rows.{new_row}
use Rattle.otp_ledger.proofs.ledger.rows_of.Given as goal

abbrev pub invariant-loop-account : goal.invariant-loop-account
invariant-loop-account l = l.rows.items ≡ map new_row (take l.account-index l.accounts)
