use Rattle.std.proofs.Common.{◌≡◌, length}
use Rattle.imsg_frame.specs.Message.{messages_in}
use Rattle.imsg_frame.specs.Cut.{AddsCut}
use Rattle.imsg_frame.proofs.reader.Reader.take_frames.Given as goal

abbrev pub invariant-loop-header : goal.invariant-loop-header
invariant-loop-header l = record {
  cut : AddsCut l.initial.self.width l.initial.self.max (messages_in l.initial.frames.items) l.initial.self.bytes (messages_in l.frames.items) l.self.bytes;
  width : l.self.width ≡ l.initial.self.width;
  max : l.self.max ≡ l.initial.self.max;
}

abbrev pub decreases-loop-header : goal.decreases-loop-header
decreases-loop-header l = length l.self.bytes
