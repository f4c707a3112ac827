use Rattle.std.proofs.Common.{◌<◌, ◌≢◌, ◌∙◌, length, arith, get_or-set_other, get_or-set_same, below_more}
use Rattle.std.proofs.Math.ListN.{length-set}
use Rattle.std.proofs.lemmas.List.FromFn.{fill_by_all}
use Rattle.otp_words.specs.Inner.{grouped}
use Rattle.otp_words.proofs.HexLemmas.{hex_text-places}
use Rattle.otp_words.proofs.hexadecimal.hex_text.Goals as goal

pub loop-k-preserved : goal.loop-k-preserved
loop-k-preserved c = record {
  long = simp length-set c.loop-k.invariant.long;
  same = below_more _ _
      (λ j h. let ne : j ≢ c.loop-k.k = omega arith in rw get_or-set_other (c.loop-k.invariant.same j h))
      (let lt : c.loop-k.k < length c.loop-k.text = omega arith in rw get_or-set_same c.grouped.ensures);
}

pub returns : goal.returns
returns c = fill_by_all (grouped c.hex_digits-digits.result) c.loop-k.text 19 0 c.loop-k.invariant.long (λ k lt. c.loop-k.invariant.same k (omega arith)) ∙ hex_text-places c.args.password c.hex_digits-digits.result c.hex_digits-digits.ensures
