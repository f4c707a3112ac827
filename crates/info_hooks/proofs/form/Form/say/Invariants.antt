use Rattle.std.proofs.Common.{◌≡◌, ◌≤◌, ◌*◌, length, take}
use Rattle.std.specs.List.{flat_map}
use Rattle.info_hooks.specs.Said.{piece_text}
use Rattle.info_hooks.proofs.form.Form.say.Given as goal

abbrev pub invariant-loop-piece : goal.invariant-loop-piece
invariant-loop-piece l = record {
  pieces : l.piece-items ≡ take l.self.len l.self.pieces;
  few : length l.piece-items ≤ 8;
  text : l.line.items ≡ flat_map (piece_text l.card) (take l.piece-index l.piece-items);
  room : length l.line.items ≤ l.piece-index * 32;
}
