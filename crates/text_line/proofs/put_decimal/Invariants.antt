use Rattle.std.proofs.Common.{◌+◌, ◌-◌, ◌≡◌, ◌≤◌, ◌++◌, drop, length}
use Rattle.std.specs.Fmt.{decimal}
use Rattle.text_line.proofs.put_decimal.Given as goal

-- the digits that are found stand after those of what is left, for which there is room
abbrev pub invariant-loop-left : goal.invariant-loop-left
invariant-loop-left l = (decimal l.number ≡ decimal l.left ++ drop (l.start + 1) l.digits) × (length (decimal l.left) ≤ l.start + 1) × (l.start + 1 ≤ 20) × (length l.digits ≡ 20) × (l.number ≡ l.fn.number)

abbrev pub decreases-loop-left : goal.decreases-loop-left
decreases-loop-left l = l.left + 1 - 10
