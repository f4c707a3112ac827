use Rattle.std.proofs.Common.{◌≡◌, ◌≤◌, take}
use Rattle.otp_words.specs.Challenges.{decimal_value}
use Rattle.otp_words.proofs.number.read_number.Given as goal

abbrev pub invariant-loop-digit : goal.invariant-loop-digit
invariant-loop-digit l =
    (l.number ≡ decimal_value (take l.digit-index l.text)) × (l.digit-index ≤ 0 → l.number ≤ 0) × (l.digit-index ≤ 1 → l.number ≤ 9)
    × (l.digit-index ≤ 2 → l.number ≤ 99) × (l.digit-index ≤ 3 → l.number ≤ 999) × (l.digit-index ≤ 4 → l.number ≤ 9999)
