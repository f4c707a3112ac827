use Rattle.std.proofs.Common.{◌≤◌, ◌∙◌, length, arith}
use Rattle.std.proofs.lemmas.List.{take_all}
use Rattle.otp_extended.specs.Renewals.{accounts_with}
use Rattle.otp_extended.proofs.SetupLemmas.{length-with, more_with}
use Rattle.otp_extended.proofs.setup.renewed_accounts.Goals as goal

pub loop-i-preserved : goal.loop-i-preserved
loop-i-preserved c =
    let accounts = c.args.accounts.now in
    rw c.in_ok-push.ensures.items
    (more_with accounts c.args.new.now.account c.loop-i.i c.args.new.now c.loop-i.items.items c.index-accounts-i.result c.in_ok-copy_with.field-0 c.loop-i-test.true c.loop-i.invariant c.index-accounts-i.is c.in_ok-copy_with.ensures)

pub returns : goal.returns
returns c =
    let all = accounts_with c.args.accounts.now c.args.new.now.account c.args.new.now in
    let long : length all ≤ c.loop-i.i = omega (arith, c.loop-i-test.false, length-with c.args.accounts.now c.args.new.now.account c.args.new.now) in
    c.of.ensures ∙ c.loop-i.invariant ∙ take_all c.loop-i.i all long
