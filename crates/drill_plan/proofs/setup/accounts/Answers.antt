use Rattle.std.proofs.Common.{◌≡◌, ◌+◌, length, sym, subst, arith}
use Rattle.drill_plan.specs.DrillSetup.{AreDrillAccounts}
use Rattle.drill_plan.proofs.Setups.{accounts-more}
use Rattle.drill_plan.proofs.setup.accounts.Goals as goal

pub loop-worker-preserved : goal.loop-worker-preserved
loop-worker-preserved c =
    let items = c.loop-worker.accounts.items in
    let len : length items ≡ c.loop-worker.worker = omega (arith, c.loop-worker.invariant.len, c.loop-worker.accounts.ok.0) in
    record {
      len = omega (arith, c.in_ok-push.ensures.len, len);
      each = accounts-more c.args.n c.loop-worker.worker items c.push.new.self.items c.in_ok-account.field-0 len c.loop-worker.invariant.each c.in_ok-account.ensures c.in_ok-push.ensures.items;
    }

pub returns : goal.returns
returns c =
    let items = c.loop-worker.accounts.items in
    let len : length items ≡ c.loop-worker.worker = omega (arith, c.loop-worker.invariant.len, c.loop-worker.accounts.ok.0) in
    let four : length items ≡ 4 = omega (arith, len, c.loop-worker-test.false, c.loop-worker.auto.worker-end) in
    subst (λ accounts. AreDrillAccounts c.args.n accounts) (sym c.of.ensures) (record { four = four; each = c.loop-worker.invariant.each })
