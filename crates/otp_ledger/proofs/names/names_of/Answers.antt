use Rattle.std.proofs.Common.{◌∙◌, refl}
use Rattle.otp_ledger.specs.Names.{number_named}
use Rattle.otp_ledger.proofs.NameLemmas.{names_more}
use Rattle.otp_ledger.proofs.names.names_of.Goals as goal

pub loop-i-preserved : goal.loop-i-preserved
loop-i-preserved c = record {
  rising = c.in_ok-add.ensures.rising;
  numbers = λ user. c.in_ok-add.ensures.numbers user ∙ names_more c.args.accounts.now c.loop-i.i c.index-accounts-i.result (record { name = c.index-accounts-i.result.name; account = c.loop-i.i }) (number_named c.loop-i.names.items user) user c.loop-i-test.true c.index-accounts-i.is refl refl (c.loop-i.invariant.numbers user);
}
