use Rattle.std.proofs.Common.{◌≡◌, ℕ, ◌<◌, length, get_or}
use Rattle.std.specs.Char.{to_ascii_uppercase}
use Rattle.otp_words.proofs.hexadecimal.upper_digits.Given as goal

abbrev pub invariant-loop-i : goal.invariant-loop-i
invariant-loop-i l = record {
  long : length l.upper ≡ 16;
  same : (k : ℕ) → k < l.i → get_or l.upper k 0 ≡ to_ascii_uppercase (get_or l.digits k 0);
}
