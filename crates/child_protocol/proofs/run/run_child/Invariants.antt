use Rattle.std.proofs.Common.{◌≡◌, ◌≤◌, length}
use Rattle.child_protocol.specs.Frames.{frame_width}
use Rattle.child_protocol.specs.Places.{IsAsked}
use Rattle.child_protocol.specs.Stands.{role_in, stands_for}
use Rattle.child_protocol.specs.Runs.{IsRunning}
use Rattle.child_protocol.proofs.run.run_child.Given as goal

abbrev pub invariant-loop-turn : goal.invariant-loop-turn
invariant-loop-turn g l = record {
  running : IsRunning (role_in l.fn.core) l.fn.core.session (stands_for l.core) l._turn l.len l.out l.reader.bytes (g.E.Stream.link l.fn.link) (g.E.Stream.link l.link);
  asked : IsAsked l.core.dialogue.place;
  role : role_in l.core ≡ role_in l.fn.core;
  session : l.core.session ≡ l.fn.core.session;
  width : l.reader.width ≡ frame_width;
  max : l.reader.max ≡ 16384;
  within : length l.reader.bytes ≤ 16384;
  room : 16384 ≤ length l.out;
  faults : g.E.Stream.faults l.fn.link ≤ g.E.Stream.faults l.link;
  link_role : g.E.Stream.role l.link ≡ g.E.Stream.role l.fn.link;
}
