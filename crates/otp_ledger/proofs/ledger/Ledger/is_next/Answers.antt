use Rattle.otp_ledger.specs.Accounts.{state_at}
use Rattle.otp_ledger.proofs.RowLemmas.{next_differs, next_matches}
use Rattle.otp_ledger.proofs.ledger.Ledger.is_next.Goals as goal

pub returns-then-hashed-row : goal.returns-then-hashed-row
returns-then-hashed-row c = next_matches c.row-row.result.now (state_at c.args.self.now c.args.account) c.args.password c.hashed.result c.was_accepted.result c.row-row.ensures.state c.hashed.ensures c.if-hashed-row.true c.was_accepted.ensures

pub returns-else-hashed-row : goal.returns-else-hashed-row
returns-else-hashed-row c = next_differs c.row-row.result.now (state_at c.args.self.now c.args.account) c.args.password c.hashed.result c.row-row.ensures.state c.hashed.ensures c.if-hashed-row.false
