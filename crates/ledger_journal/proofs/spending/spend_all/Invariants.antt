use Rattle.std.proofs.Common.{◌≡◌, ◌+◌, take}
use Rattle.ledger_journal.specs.Recovering.{HasAccepted}
use Rattle.ledger_journal.specs.Spending.{VerifyTo}
use Rattle.ledger_journal.proofs.spending.spend_all.Given as goal

abbrev pub invariant-loop-login : goal.invariant-loop-login
invariant-loop-login l = record {
  accepted : HasAccepted l.fn.ledger.setup (take l.login-index l.logins) l.ledger;
  verified : VerifyTo l.fn.ledger.setup l.logins l.login-index;
  spent : l.ledger.spent ≡ l.fn.ledger.spent + l.login-index;
  cap : l.ledger.cap ≡ l.fn.ledger.cap;
}
