-- Inner: what a ledger is once the array that it lent is given back.
use Rattle.std.specs.Prelude.{◌≡◌}
use Rattle.std.specs.Borrow.{Fml, MutBor}
use Rattle.std.specs.Io.BufRead.{Rests}
use Rattle.otp_ledger.specs.contracts.ledger.Ledger.{the_row}
use Rattle.otp_ledger.specs.Accounts.{LedgerParts}

-- the ledger ends as it was
abbrev pub StaysSame : MutBor LedgerParts → Fml
StaysSame ledger = Rests the_row ledger (λ new. new ≡ ledger.now)
