use Rattle.std.proofs.Common.{◌≡◌, ℕ, ◌<◌, ◌≤◌, ◌-◌, false, get_or, length}
use Rattle.decision_log.specs.Parts.{ends_part}
use Rattle.decision_log.proofs.parts.part_len.Given as goal

abbrev pub decreases-loop-len : goal.decreases-loop-len
decreases-loop-len l = length l.text - l.len

abbrev pub invariant-loop-len : goal.invariant-loop-len
invariant-loop-len l = record {
  within : l.len ≤ length l.text;
  before : (k : ℕ) → k < l.len → ends_part (get_or l.text k 0) ≡ false;
}
