use Rattle.std.proofs.Common.{◌≡◌, ◌++◌, drop}
use Rattle.std.specs.List.{flat_map}
use Rattle.imsg_frame.specs.Message.{messages_in}
use Rattle.imsg_frame.specs.Cut.{IsCut, IsLastFront}
use Rattle.imsg_frame.proofs.reader.Reader.frames_of.Given as goal

abbrev pub invariant-loop-piece : goal.invariant-loop-piece
invariant-loop-piece l = record {
  cut : IsCut l.fn.self.width l.fn.self.max (l.fn.self.bytes ++ flat_map (λ piece. piece.now) l.pieces) (messages_in l.frames.items) (l.self.bytes ++ flat_map (λ piece. piece.now) (drop l.piece-index l.pieces));
  last : IsLastFront l.self.width l.self.max l.self.bytes;
  width : l.self.width ≡ l.fn.self.width;
  max : l.self.max ≡ l.fn.self.max;
}
