use Rattle.std.proofs.Common.{drop, ◌∙◌, arith, inr}
use Rattle.std.proofs.lemmas.List.{at_drop_all, drop_all}
use Rattle.imsg_frame.proofs.Pieces.{bytes_in, IsCut-piece, IsBadFront-from_stop, IsLastFront-held, IsStop-at_end, IsLongestCut-at_stop}
use Rattle.imsg_frame.proofs.Cuts.{IsLongestCut-same}
use Rattle.imsg_frame.proofs.reader.Reader.frames_of.Goals as goal

pub loop-piece-preserved : goal.loop-piece-preserved
loop-piece-preserved c =
    let here = c.loop-piece in
    let fed = c.in_ok-fed.ensures in
    let none = drop_all c.in_ok-fed.fed _ c.if-fed-piece.false in
    let cut = IsCut-piece here.self.width _ here.self.max _ _ _ _ here.self.bytes c.feed_all.new.self.bytes _ c.args.pieces.now here.piece-index _ here.invariant.width here.invariant.max (omega arith) here.invariant.cut fed.cut in
    record { cut = rw none at cut; last = IsLastFront-held _ _ _ _ fed.stop; width = fed.width ∙ here.invariant.width; max = fed.max ∙ here.invariant.max }

pub returns-clause-cut : goal.returns-clause-cut
returns-clause-cut c =
    let here = c.loop-piece in
    let none = at_drop_all bytes_in c.args.pieces.now here.piece-index (omega arith) in
    let stop = IsStop-at_end here.self.width here.self.max here.self.bytes _ none here.invariant.last in
    (_, IsLongestCut-at_stop _ _ _ _ here.self.bytes (bytes_in (drop here.piece-index c.args.pieces.now)) here.invariant.cut (rw (here.invariant.width, here.invariant.max) at stop), stop)

pub returns-clause-only : goal.returns-clause-only
returns-clause-only c others rest longest = IsLongestCut-same _ _ _ _ _ _ _ (returns-clause-cut c).1 longest

pub returns-then-fed-piece-clause-cut : goal.returns-then-fed-piece-clause-cut
returns-then-fed-piece-clause-cut c =
    let here = c.loop-piece in
    let fed = c.in_ok-fed.ensures in
    let cut = IsCut-piece here.self.width _ here.self.max _ _ _ _ here.self.bytes c.feed_all.new.self.bytes _ c.args.pieces.now here.piece-index _ here.invariant.width here.invariant.max (omega arith) here.invariant.cut fed.cut in
    let bad = IsBadFront-from_stop _ _ _ _ _ c.if-fed-piece.true fed.stop in
    (_, IsLongestCut-at_stop _ _ _ _ _ _ cut (inr (rw (fed.width ∙ here.invariant.width, fed.max ∙ here.invariant.max) at bad)), inr bad)

pub returns-then-fed-piece-clause-only : goal.returns-then-fed-piece-clause-only
returns-then-fed-piece-clause-only c others rest longest = IsLongestCut-same _ _ _ _ _ _ _ (returns-then-fed-piece-clause-cut c).1 longest
