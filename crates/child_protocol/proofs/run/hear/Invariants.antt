use Rattle.std.proofs.Common.{◌≡◌, ◌≤◌, length, ◌-◌}
use Rattle.child_protocol.specs.Frames.{frame_width}
use Rattle.child_protocol.specs.Runs.{Receives}
use Rattle.child_protocol.proofs.run.hear.Given as goal

abbrev pub invariant-loop-header : goal.invariant-loop-header
invariant-loop-header g l = record {
  core : l.core ≡ l.fn.core;
  out : l.out ≡ l.fn.out;
  width : l.reader.width ≡ frame_width;
  max : l.reader.max ≡ 16384;
  within : length l.reader.bytes ≤ 16384;
  received : Receives l.fn.reader.bytes l.reader.bytes (g.E.Stream.link l.fn.link) (g.E.Stream.link l.link);
  faults : g.E.Stream.faults l.fn.link ≤ g.E.Stream.faults l.link;
  role : g.E.Stream.role l.link ≡ g.E.Stream.role l.fn.link;
}

abbrev pub decreases-loop-header : goal.decreases-loop-header
decreases-loop-header g l = 16384 - length l.reader.bytes
