use Rattle.std.proofs.Common.{◌+◌, ◌<◌, ◌≢◌, length, get_or, arith, get_or-set_other, get_or-set_same, below_more}
use Rattle.std.specs.Prelude.{bit_xor}
use Rattle.std.proofs.Math.ListN.{length-set}
use Rattle.std.proofs.lemmas.List.FromFn.{fill_by_all}
use Rattle.otp_hash.specs.Hashing.{folded_md5}
use Rattle.otp_hash.proofs.fold.fold_md5.Goals as goal

pub loop-k-preserved : goal.loop-k-preserved
loop-k-preserved c = record {
  long = simp length-set c.loop-k.invariant.long;
  same = below_more _ _
      (λ j h. let ne : j ≢ c.loop-k.k = omega arith in rw get_or-set_other (c.loop-k.invariant.same j h))
      (let lt : c.loop-k.k < length c.loop-k.folded = omega arith in rw get_or-set_same);
}

pub returns : goal.returns
unfolding folded_md5
returns c =
    let d = c.args.digest.now in
    fill_by_all (λ k. bit_xor (get_or d k 0) (get_or d (k + 8) 0)) c.loop-k.folded 8 0 c.loop-k.invariant.long (λ k lt. c.loop-k.invariant.same k (omega arith))
