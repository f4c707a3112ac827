use Rattle.std.proofs.Common.{◌∙◌, arith, subst, sym}
use Rattle.otp_ledger.specs.Accounts.{LedgerParts, state_at}
use Rattle.ledger_journal.specs.Spending.{IsSpent}
use Rattle.ledger_journal.proofs.SpendLemmas.{next_of, some_of, spends}
use Rattle.ledger_journal.proofs.spending.spend.Goals as goal

pub verifies-requires-clause-account : goal.verifies-requires-clause-account
verifies-requires-clause-account c = (let lt = c.requires.within c.in-Some.account c.in-Some.is in omega (arith, lt, c.requires.known.same))

pub spend-requires-clause-account : goal.spend-requires-clause-account
spend-requires-clause-account c = (let lt = c.requires.within c.in-Some.account c.in-Some.is in omega (arith, lt, c.requires.known.same))

pub spend-requires-clause-next : goal.spend-requires-clause-next
spend-requires-clause-next c = next_of (state_at c.args.ledger.now c.in-Some.account) c.args.login.now.password (sym c.verifies.ensures ∙ c.if-verifies.true)

pub spend-requires-clause-some : goal.spend-requires-clause-some
spend-requires-clause-some c = some_of (state_at c.args.ledger.now c.in-Some.account) c.args.login.now.password (sym c.verifies.ensures ∙ c.if-verifies.true)

pub returns-in-Some : goal.returns-in-Some
returns-in-Some c =
    subst (λ (l : LedgerParts). IsSpent c.args.login.now c.args.ledger.now l) (sym c.spend.ensures.value)
    (spends c.args.login.now c.args.ledger.now c.in-Some.account c.requires.within c.requires.known c.in-Some.is (sym c.verifies.ensures ∙ c.if-verifies.true))
