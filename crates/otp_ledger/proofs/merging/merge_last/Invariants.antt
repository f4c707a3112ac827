use Rattle.std.proofs.Common.{◌≡◌, take, vec_capacity, vec_len}
use Rattle.otp_ledger.proofs.MergeLemmas.{IsMerging}
use Rattle.otp_ledger.proofs.merging.merge_last.Given as goal

abbrev pub invariant-loop-left : goal.invariant-loop-left
invariant-loop-left l = record {
  merging : IsMerging (take l.settled l.fn.kept.items) l.recent l.kept.items l.end l.left;
  len : vec_len l.kept ≡ vec_len l.fn.kept;
  capacity : vec_capacity l.kept ≡ vec_capacity l.fn.kept;
}

abbrev pub decreases-loop-left : goal.decreases-loop-left
decreases-loop-left l = l.left
