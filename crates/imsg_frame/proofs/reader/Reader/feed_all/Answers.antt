use Rattle.std.proofs.Common.{◌≡◌, ℕ, ◌-◌, List, ◌++◌, length, drop, take, ap, subst, ◌∙◌, arith}
use Rattle.std.proofs.lemmas.List.{drop-drop, take_rest, length-take, length-drop}
use Rattle.request_catalogue.specs.declared.width.Width.{Width}
use Rattle.imsg_frame.specs.Message.{messages_in}
use Rattle.imsg_frame.specs.Cut.{AddsCut}
use Rattle.imsg_frame.proofs.Cuts.{AddsCut-fed}
use Rattle.imsg_frame.proofs.reader.Reader.feed_all.Goals as goal

pub loop-fed-preserved : goal.loop-fed-preserved
loop-fed-preserved c =
    let here = c.loop-fed in
    let fed = c.feed-taken.ensures in
    let took = c.in_ok-take_frames-2.ensures in
    let piece = c.args.piece.now in
    let n = c.feed-taken.result in
    let same_max : c.feed-taken.new.self.max ≡ c.args.self.now.max = fed.max ∙ here.invariant.max in
    let same_width : c.feed-taken.new.self.width ≡ c.args.self.now.width = fed.width ∙ here.invariant.width in
    let bytes : c.feed-taken.new.self.bytes ≡ here.self.bytes ++ take n (drop here.fed piece) = fed.bytes ∙ ap (λ (part : List ℕ). here.self.bytes ++ take n part) (take_rest piece here.fed) in
    let added = subst (λ (max : ℕ). AddsCut c.feed-taken.new.self.width max (messages_in here.frames.items) c.feed-taken.new.self.bytes (messages_in c.take_frames-in-loop-fed.new.frames.items) c.take_frames-in-loop-fed.new.self.bytes) same_max took.cut in
    let whole = subst (λ (width : Width). AddsCut width c.args.self.now.max (messages_in here.frames.items) c.feed-taken.new.self.bytes (messages_in c.take_frames-in-loop-fed.new.frames.items) c.take_frames-in-loop-fed.new.self.bytes) same_width added in
    record {
      cut = rw (← drop-drop n here.fed piece) (AddsCut-fed _ _ _ _ _ _ here.self.bytes (drop here.fed piece) _ _ n here.invariant.cut bytes whole);
      last = took.last;
      room = took.room;
      within = omega (arith, here.invariant.within, fed.taken, length-take (length piece - here.fed) (drop here.fed piece), length-drop here.fed piece);
      width = took.width ∙ same_width;
      max = took.max ∙ same_max;
    }
