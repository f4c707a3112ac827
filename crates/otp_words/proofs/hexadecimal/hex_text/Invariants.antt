use Rattle.std.proofs.Common.{◌≡◌, ℕ, ◌<◌, length, get_or}
use Rattle.otp_words.specs.Inner.{grouped}
use Rattle.otp_words.proofs.hexadecimal.hex_text.Given as goal

abbrev pub invariant-loop-k : goal.invariant-loop-k
invariant-loop-k l = record {
  long : length l.text ≡ 19;
  same : (j : ℕ) → j < l.k → get_or l.text j 0 ≡ grouped l.digits j;
}
