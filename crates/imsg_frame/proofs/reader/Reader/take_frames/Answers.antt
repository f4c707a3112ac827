use Rattle.std.proofs.Common.{◌∙◌, refl}
use Rattle.imsg_frame.proofs.Cuts.{AddsCut-none}
use Rattle.imsg_frame.proofs.Taking.{AddsCut-next, held-falls, max-next, width-next, messages_in-push, Rested-from_answer}
use Rattle.imsg_frame.proofs.reader.Reader.take_frames.Goals as goal

pub loop-header-smaller : goal.loop-header-smaller
loop-header-smaller c = rw c.in_ok-owned.ensures.same (held-falls _ _ _ _ c.in-Frame.is c.next.ensures.answer c.next.ensures.after)

pub loop-header-init : goal.loop-header-init
loop-header-init c = record { cut = AddsCut-none _ _ _ _; width = refl; max = refl }

pub loop-header-preserved : goal.loop-header-preserved
loop-header-preserved c =
    let here = c.loop-header in
    let messages = messages_in-push here.frames.items c.push.new.self.items _ _ c.in_ok-push.ensures.items c.in_ok-owned.ensures.owned in
    rw c.in_ok-owned.ensures.same (record {
      cut = AddsCut-next _ _ _ _ _ _ _ _ _ _ c.in-Frame.is c.next.ensures.answer c.next.ensures.after here.invariant.width here.invariant.max messages here.invariant.cut;
      width = width-next _ _ _ c.next.ensures.after ∙ here.invariant.width;
      max = max-next _ _ _ c.next.ensures.after ∙ here.invariant.max;
    })

pub returns : goal.returns
returns c =
    let here = c.loop-header in
    let rested = Rested-from_answer c.next.result here.self c.next.new.self c.in_default.not-Frame c.next.ensures.answer c.next.ensures.after in
    rw rested.same (record {
      cut = here.invariant.cut;
      last = rested.last;
      room = λ partial. c.next.ensures.room (c.next.ensures.answer.not_yet.1 partial);
      width = here.invariant.width;
      max = here.invariant.max;
    })
