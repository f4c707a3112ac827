use Rattle.std.proofs.Common.{◌≡◌, ◌-◌, ◌≤◌, ◌++◌, take, drop}
use Rattle.imsg_frame.proofs.reader.rotate.Given as goal

abbrev pub invariant-loop-left : goal.invariant-loop-left
invariant-loop-left l = record {
  within : l.left ≤ l.count;
  items : l.ring.items ≡ drop (l.count - l.left) l.initial.ring.items ++ take (l.count - l.left) l.initial.ring.items;
  capacity : l.ring.capacity ≡ l.initial.ring.capacity;
}

abbrev pub decreases-loop-left : goal.decreases-loop-left
decreases-loop-left l = l.left
