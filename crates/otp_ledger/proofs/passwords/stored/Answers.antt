use Rattle.std.proofs.Common.{arith}
use Rattle.otp_ledger.proofs.EntryLemmas.{entries_more}
use Rattle.otp_ledger.proofs.passwords.stored.Goals as goal

pub loop-i-preserved : goal.loop-i-preserved
loop-i-preserved c = record {
  rising = c.keep.ensures.rising;
  entries = entries_more c.loop-i.kept.items c.keep.new.kept.items c.args.accounts.now c.loop-i.i c.index-accounts-i.result c.loop-i-test.true c.index-accounts-i.is c.loop-i.invariant.entries c.keep.ensures.entries;
  len = omega (arith, c.keep.ensures.len, c.loop-i.invariant.len);
  room = omega (arith, c.keep.ensures.capacity, c.loop-i.invariant.room);
}
