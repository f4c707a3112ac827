use Rattle.std.proofs.Common.{◌∙◌, List, None, ap, arith, drop, reverse, subst, sym, true, false}
use Rattle.ledger_journal.specs.declared.login.Login.{Login}
use Rattle.ledger_journal.specs.Reads.{AreSeen}
use Rattle.ledger_journal.proofs.PassLemmas.{left_on, parts_at}
use Rattle.ledger_journal.proofs.passing.left_over.Goals as goal

any : Login
any = record { line = 0; account = None; password = 0 }

pub loop-i-preserved : goal.loop-i-preserved
unfolding any
loop-i-preserved c =
    let logins : List Login = c.args.logins.now in
    let inv = c.loop-i.invariant in
    let passed = sym c.if-not-is_passed.false ∙ c.is_passed.ensures.passed (drop c.loop-i.i logins) inv.seen in
    record {
      within = omega (arith, inv.within);
      seen = subst (λ l. AreSeen c.args.setup.now l c.is_passed.new.seen.items) (parts_at logins c.loop-i.i any c.loop-i-test.true inv.within) (c.is_passed.ensures.seen (drop c.loop-i.i logins) inv.seen);
      left = left_on c.args.setup.now logins c.loop-i.i any true c.loop-i.left.items c.loop-i-test.true inv.within passed inv.left;
    }

pub loop-i-preserved-in-Continue-branch-2 : goal.loop-i-preserved-in-Continue-branch-2
unfolding any
loop-i-preserved-in-Continue-branch-2 c =
    let logins : List Login = c.args.logins.now in
    let inv = c.loop-i.invariant in
    let passed = sym c.if-not-is_passed.true ∙ c.is_passed.ensures.passed (drop c.loop-i.i logins) inv.seen in
    record {
      within = omega (arith, inv.within);
      seen = subst (λ l. AreSeen c.args.setup.now l c.is_passed.new.seen.items) (parts_at logins c.loop-i.i any c.loop-i-test.true inv.within) (c.is_passed.ensures.seen (drop c.loop-i.i logins) inv.seen);
      left = ap reverse c.in_ok-push.ensures.items ∙ left_on c.args.setup.now logins c.loop-i.i any false c.loop-i.left.items c.loop-i-test.true inv.within passed inv.left;
    }
