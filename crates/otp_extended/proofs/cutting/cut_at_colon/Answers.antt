use Rattle.std.proofs.Common.{arith}
use Rattle.std.proofs.lemmas.List.Sums.{prefix_len-le-length}
use Rattle.otp_extended.specs.Inner.{is_no_colon}
use Rattle.otp_extended.proofs.PartLemmas.{no_cut, some_cut}
use Rattle.otp_extended.proofs.cutting.cut_at_colon.Goals as goal

pub split_at-requires : goal.split_at-requires
split_at-requires c = omega (arith, c.part_len.ensures, prefix_len-le-length is_no_colon c.args.text.now)

pub returns-in-empty-clause-whole : goal.returns-in-empty-clause-whole
returns-in-empty-clause-whole c = λ none.
    no_cut c.args.text.now c.split_at.result.0.now c.split_at.result.1.now c.part_len.result c.part_len.ensures c.split_at.ensures.front c.split_at.ensures.back (omega (arith, c.in-empty.len_below))

pub returns-in-len1-up-clause-cut : goal.returns-in-len1-up-clause-cut
returns-in-len1-up-clause-cut c =
    some_cut c.args.text.now c.split_at.result.0.now c.split_at.result.1.now c.part_len.result c.part_len.ensures c.split_at.ensures.front c.split_at.ensures.back (omega (arith, c.in-len1-up.len_at_least))
