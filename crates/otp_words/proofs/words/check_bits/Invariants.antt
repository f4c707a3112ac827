use Rattle.std.proofs.Common.{◌≡◌, ◌≤◌, ◌*◌}
use Rattle.std.specs.Prelude.{sum}
use Rattle.otp_words.specs.Digits.{digits_of}
use Rattle.otp_words.proofs.words.check_bits.Given as goal

abbrev pub invariant-loop-place : goal.invariant-loop-place
invariant-loop-place l = record {
  summed : l.sum ≡ sum (digits_of 2 l.place l.password);
  small : l.sum ≤ 3 * l.place;
}
