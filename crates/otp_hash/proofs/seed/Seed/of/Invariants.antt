use Rattle.std.proofs.Common.{◌≡◌, ℕ, ◌<◌, length, get_or}
use Rattle.std.specs.Char.{to_ascii_lowercase}
use Rattle.otp_hash.proofs.seed.Seed.of.Given as goal

abbrev pub invariant-loop-i : goal.invariant-loop-i
invariant-loop-i l = record {
  long : length l.text ≡ 16;
  same : (k : ℕ) → k < l.i → get_or l.text k 0 ≡ to_ascii_lowercase (get_or l.bytes k 0);
}
