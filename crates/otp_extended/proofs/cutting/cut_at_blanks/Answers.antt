use Rattle.std.proofs.Common.{List, ℕ, length, ap, ◌∙◌, ◌==◌, arith}
use Rattle.std.proofs.lemmas.List.Sums.{prefix_len-le-length}
use Rattle.otp_words.specs.Blanks.{is_blank, is_no_blank}
use Rattle.otp_words.proofs.NumberLemmas.{no_length, some_length}
use Rattle.otp_extended.proofs.BlankLemmas.{cut_found, cut_only}
use Rattle.otp_extended.proofs.cutting.cut_at_blanks.Goals as goal

pub split_at-requires : goal.split_at-requires
split_at-requires c = omega (arith, c.word_len.ensures, prefix_len-le-length is_no_blank c.args.text.now)

pub split_at-requires-2 : goal.split_at-requires-2
split_at-requires-2 c = omega (arith, c.gap_len.ensures, prefix_len-le-length is_blank c.split_at.result.1.now)

pub returns-then-is_empty-clause-only : goal.returns-then-is_empty-clause-only
returns-then-is_empty-clause-only c = λ front rest is.
    let only = cut_only c.args.text.now _ _ _ _ front rest c.word_len.result c.gap_len.result c.word_len.ensures c.split_at.ensures.front c.split_at.ensures.back c.gap_len.ensures c.split_at-2.ensures.front c.split_at-2.ensures.back is in
    no_length (length is.gap) is.parted.some (c.if-is_empty.ensures ∙ ap (λ (g : List ℕ). length g == 0) only.0)

pub returns-clause-cut : goal.returns-clause-cut
returns-clause-cut c =
    cut_found c.args.text.now _ _ _ _ c.word_len.result c.gap_len.result c.word_len.ensures c.split_at.ensures.front c.split_at.ensures.back c.gap_len.ensures c.split_at-2.ensures.front c.split_at-2.ensures.back (some_length (length c.split_at-2.result.0.now) c.if-is_empty.ensures)

pub returns-clause-only : goal.returns-clause-only
returns-clause-only c = λ front rest is.
    (cut_only c.args.text.now _ _ _ _ front rest c.word_len.result c.gap_len.result c.word_len.ensures c.split_at.ensures.front c.split_at.ensures.back c.gap_len.ensures c.split_at-2.ensures.front c.split_at-2.ensures.back is).1
