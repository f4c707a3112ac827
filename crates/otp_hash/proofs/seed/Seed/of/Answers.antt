use Rattle.std.proofs.Common.{◌<◌, ◌≤◌, ◌≢◌, ◌∙◌, length, arith, get_or-set_other, get_or-set_same, below_more, sym}
use Rattle.std.proofs.Math.ListN.{length-set}
use Rattle.otp_hash.proofs.SeedLemmas.{take-lowercased, is_seed-map_lowercase, length-is_seed_text}
use Rattle.otp_hash.proofs.seed.Seed.of.Goals as goal

pub loop-i-preserved : goal.loop-i-preserved
loop-i-preserved c =
    let most : length c.args.bytes.now ≤ 16 = length-is_seed_text c.args.bytes.now (sym c.if-not-is_seed_text.ensures) in
    record {
      long = simp length-set c.loop-i.invariant.long;
      same = below_more _ _
          (λ k h. let ne : k ≢ c.loop-i.i = omega arith in rw get_or-set_other (c.loop-i.invariant.same k h))
          (let lt : c.loop-i.i < length c.loop-i.text = omega arith in rw get_or-set_same c.to_ascii_lowercase.ensures.value);
    }

pub invariant_of-result : goal.invariant_of-result
invariant_of-result c =
    let legal = sym c.if-not-is_seed_text.ensures in
    let most : length c.args.bytes.now ≤ 16 = length-is_seed_text c.args.bytes.now legal in
    let same = take-lowercased c.loop-i.text c.args.bytes.now (omega arith) (λ k lt. c.loop-i.invariant.same k (omega arith)) in
    record { legal = rw (c.of.ensures, same) (is_seed-map_lowercase c.args.bytes.now legal) }

pub returns-clause-found : goal.returns-clause-found
returns-clause-found c =
    let most : length c.args.bytes.now ≤ 16 = length-is_seed_text c.args.bytes.now (sym c.if-not-is_seed_text.ensures) in
    c.of.ensures ∙ take-lowercased c.loop-i.text c.args.bytes.now (omega arith) (λ k lt. c.loop-i.invariant.same k (omega arith))
