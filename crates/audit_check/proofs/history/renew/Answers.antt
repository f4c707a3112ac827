use Rattle.audit_check.proofs.KeptLemmas.{renewed_all, renewed_more, renewed_none}
use Rattle.audit_check.proofs.history.renew.Goals as goal

pub loop-i-init : goal.loop-i-init
loop-i-init c = renewed_none c.args.accounts.now c.args.event.now c.args.holds.now.items

pub loop-i-preserved : goal.loop-i-preserved
loop-i-preserved c =
    renewed_more c.args.accounts.now c.args.event.now c.loop-i.i c.args.holds.now.items c.loop-i.holds.items c.index-accounts-i.result c.index.result.now c.hold_after.result c.requires c.loop-i-test.true c.loop-i.invariant c.index.ensures c.hold_after.ensures

pub returns : goal.returns
returns c = renewed_all c.args.accounts.now c.args.event.now c.loop-i.i c.args.holds.now.items c.loop-i.holds.items c.loop-i.invariant c.loop-i-test.false
