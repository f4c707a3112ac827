use Rattle.std.proofs.Common.{◌≡◌, ◌-◌, ◌<◌, ◌≤◌, ◌++◌, length, drop}
use Rattle.imsg_frame.specs.Message.{messages_in}
use Rattle.imsg_frame.specs.Cut.{AddsCut, IsLastFront, IsPartialFront}
use Rattle.imsg_frame.proofs.reader.Reader.feed_all.Given as goal

abbrev pub invariant-loop-fed : goal.invariant-loop-fed
invariant-loop-fed l = record {
  cut : AddsCut l.fn.self.width l.fn.self.max (messages_in l.fn.frames.items) (l.fn.self.bytes ++ l.piece) (messages_in l.frames.items) (l.self.bytes ++ drop l.fed l.piece);
  last : IsLastFront l.self.width l.self.max l.self.bytes;
  room : IsPartialFront l.self.width l.self.max l.self.bytes → length l.self.bytes < l.self.max;
  within : l.fed ≤ length l.piece;
  width : l.self.width ≡ l.fn.self.width;
  max : l.self.max ≡ l.fn.self.max;
}

abbrev pub decreases-loop-fed : goal.decreases-loop-fed
decreases-loop-fed l = length l.piece - l.fed
