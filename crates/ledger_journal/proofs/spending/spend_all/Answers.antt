use Rattle.std.proofs.Common.{◌∙◌, None, arith}
use Rattle.ledger_journal.specs.declared.login.Login.{Login}
use Rattle.ledger_journal.proofs.SpendLemmas.{of_setup, refused_on, spent_on}
use Rattle.ledger_journal.proofs.spending.spend_all.Goals as goal

any : Login
any = record { line = 0; account = None; password = 0 }

pub spend-requires-clause-known : goal.spend-requires-clause-known
spend-requires-clause-known c = of_setup c.args.ledger.now.setup _ c.loop-login.ledger c.loop-login.invariant.accepted

pub loop-login-preserved : goal.loop-login-preserved
unfolding any
loop-login-preserved c =
    let inv = c.loop-login.invariant in
    let spent = c.if-not-spend.ensures in
    let next = spent_on c.args.ledger.now.setup c.args.logins.now c.loop-login.login-index any c.loop-login.ledger c.spend.new.ledger c.loop-login-test.true inv.accepted inv.verified spent in
    record {
      accepted = next.accepted;
      verified = next.verified;
      spent = omega (arith, spent.spent, inv.spent);
      cap = spent.cap ∙ inv.cap;
    }

pub returns-then-not-spend : goal.returns-then-not-spend
unfolding any
returns-then-not-spend c =
    let inv = c.loop-login.invariant in
    refused_on c.args.ledger.now.setup c.args.logins.now c.loop-login.login-index any c.loop-login.ledger c.loop-login-test.true inv.accepted inv.verified c.if-not-spend.ensures
