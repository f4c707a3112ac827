use Rattle.std.proofs.Common.{arith}
use Rattle.std.specs.Char.{is_ascii_digit, is_ascii_alphanumeric}
use Rattle.std.proofs.lemmas.List.Sums.{prefix_len-le-length}
use Rattle.otp_words.specs.Blanks.{is_blank}
use Rattle.otp_words.proofs.RunLemmas.{run_cut}
use Rattle.otp_words.proofs.challenge_reading.parts_of.Goals as goal

pub split_at-requires : goal.split_at-requires
split_at-requires c = omega (arith, c.gap_len.ensures, prefix_len-le-length is_blank c.args.text.now)

pub split_at-requires-2 : goal.split_at-requires-2
split_at-requires-2 c = omega (arith, c.digits_len.ensures, prefix_len-le-length is_ascii_digit c.split_at.result.1.now)

pub split_at-requires-3 : goal.split_at-requires-3
split_at-requires-3 c = omega (arith, c.gap_len-2.ensures, prefix_len-le-length is_blank c.split_at-2.result.1.now)

pub split_at-requires-4 : goal.split_at-requires-4
split_at-requires-4 c = omega (arith, c.name_len.ensures, prefix_len-le-length is_ascii_alphanumeric c.split_at-3.result.1.now)

pub returns-clause-parts : goal.returns-clause-parts
returns-clause-parts c = record {
  behind_gap = c.split_at.result.1.now;
  behind_digits = c.split_at-2.result.1.now;
  behind_second = c.split_at-3.result.1.now;
  gap_is = run_cut is_blank _ _ _ c.gap_len.result c.gap_len.ensures c.split_at.ensures.front c.split_at.ensures.back;
  digits_is = run_cut is_ascii_digit _ _ _ c.digits_len.result c.digits_len.ensures c.split_at-2.ensures.front c.split_at-2.ensures.back;
  second_is = run_cut is_blank _ _ _ c.gap_len-2.result c.gap_len-2.ensures c.split_at-3.ensures.front c.split_at-3.ensures.back;
  name_is = run_cut is_ascii_alphanumeric _ _ _ c.name_len.result c.name_len.ensures c.split_at-4.ensures.front c.split_at-4.ensures.back;
}
