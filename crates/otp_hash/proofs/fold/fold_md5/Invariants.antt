use Rattle.std.proofs.Common.{◌≡◌, ℕ, ◌+◌, ◌<◌, length, get_or}
use Rattle.std.specs.Prelude.{bit_xor}
use Rattle.otp_hash.proofs.fold.fold_md5.Given as goal

abbrev pub invariant-loop-k : goal.invariant-loop-k
invariant-loop-k l = record {
  long : length l.folded ≡ 8;
  same : (j : ℕ) → j < l.k → get_or l.folded j 0 ≡ bit_xor (get_or l.digest j 0) (get_or l.digest (j + 8) 0);
}
