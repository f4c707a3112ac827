use Rattle.std.proofs.Common.{arith}
use Rattle.otp_ledger.proofs.GoingLemmas.{accounts_few}
use Rattle.otp_ledger.proofs.ledger.Ledger.len.Goals as goal

pub returns-clause-bound : goal.returns-clause-bound
returns-clause-bound c = omega (arith, c.len.ensures, c.self.invariant.accounts, accounts_few c.self.inside.setup c.self.invariant.in_range, c.self.inside.rows.ok.0)
