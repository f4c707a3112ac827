use Rattle.std.proofs.Common.{◌≡◌, ◌++◌, length, ap, sym, subst, arith}
use Rattle.std.proofs.lemmas.List.{length-append}
use Rattle.imsg_frame.specs.Answer.{given_as}
use Rattle.imsg_frame.specs.Held.{Held}
use Rattle.imsg_frame.specs.Message.{spelling_of}
use Rattle.imsg_frame.specs.Cut.{IsPartialFront}
use Rattle.child_protocol.specs.Frames.{frame_width}
use Rattle.child_protocol.specs.Stands.{role_in, stands_for}
use Rattle.child_protocol.specs.Runs.{Receives}
use Rattle.child_protocol.proofs.Runs.{Receives-then, TookBy, bad_front, brought, frame_len, front_right, front_taken, nothing_taken, partial_front}
use Rattle.child_protocol.proofs.run.hear.Goals as goal

pub in_front-requires-clause-low : goal.in_front-requires-clause-low
in_front-requires-clause-low g c = (frame_len c.next.result c.in-Frame.header _ c.in-Frame.is c.next.ensures.len).0

pub in_front-requires-clause-within : goal.in_front-requires-clause-within
in_front-requires-clause-within g c =
    let len = (frame_len c.next.result c.in-Frame.header _ c.in-Frame.is c.next.ensures.len).1 in
    omega (arith, len, ap length c.contiguous.ensures.value, length-append c.next.new.self.given c.next.new.self.bytes)

pub returns-in-Frame-clause-hears : goal.returns-in-Frame-clause-hears
returns-in-Frame-clause-hears g c =
    let old = c.loop-header.reader in
    let new = c.next.new.self in
    let header = c.in-Frame.header in
    let len = (frame_len c.next.result header _ c.in-Frame.is c.next.ensures.len).1 in
    let message = given_as header new.given in
    let lent = ap (λ (r : Held). r.bytes) c.contiguous.ensures.same in
    let taken = subst (λ b. old.bytes ≡ spelling_of frame_width (given_as header new.given) ++ b) (sym lent) (front_taken old new c.next.result header c.in-Frame.is c.loop-header.invariant.width c.next.ensures.after) in
    let told = c.in_front.ensures new.given new.bytes c.contiguous.ensures.value len in
    let takes = subst (λ m. TookBy (role_in c.loop-header.core) c.loop-header.core.session (stands_for c.loop-header.core) (stands_for c.take.new.self) c.loop-header.out c.take.new.out m c.take.result) told c.take.ensures.takes in (
      old.bytes,
      c.loop-header.invariant.received,
      (
        message,
        front_right old.width old.max old.bytes new.given c.next.result header c.in-Frame.is c.loop-header.invariant.width c.loop-header.invariant.max c.next.ensures.answer,
        taken,
        subst (λ k. TookBy (role_in k) k.session (stands_for k) (stands_for c.take.new.self) c.args.out.now c.take.new.out message c.take.result) c.loop-header.invariant.core
            (subst (λ o. TookBy (role_in c.loop-header.core) c.loop-header.core.session (stands_for c.loop-header.core) (stands_for c.take.new.self) o c.take.new.out message c.take.result) c.loop-header.invariant.out takes),
      ),
    )

pub returns-in-Some-clause-hears : goal.returns-in-Some-clause-hears
returns-in-Some-clause-hears g c =
    let old = c.loop-header.reader in
    let lent = c.next.new.self in
    let link = g.E.Stream.link in
    let same = nothing_taken old lent c.next.result c.in-NotYet.is c.next.ensures.after in
    let received = subst (λ (h : Held). Receives h.bytes c.receive.new.reader.bytes (link c.loop-header.link) (link c.receive.new.link)) same c.receive.ensures.receives in
    let front = partial_front old.width old.max old.bytes lent.given c.next.result c.in-NotYet.is c.loop-header.invariant.width c.loop-header.invariant.max c.next.ensures.answer in (
      c.receive.new.reader.bytes,
      Receives-then c.args.reader.now.bytes old.bytes c.receive.new.reader.bytes (link c.args.link.now) (link c.loop-header.link) (link c.receive.new.link) c.loop-header.invariant.received received,
      brought c.in-Some.end lent.bytes c.receive.new.reader.bytes c.receive.new.reader.bytes (link c.receive.new.link) _ (subst (λ (h : Held). IsPartialFront frame_width 16384 h.bytes) (sym same) front) c.in-Some.ensures.brings c.in-Some.ensures.same,
    )

pub returns-in-Bad-clause-hears : goal.returns-in-Bad-clause-hears
returns-in-Bad-clause-hears g c =
    let old = c.loop-header.reader in
    (old.bytes, c.loop-header.invariant.received, (c.in-Bad.len, bad_front old.width old.max c.in-Bad.len old.bytes c.next.new.self.given c.next.result c.in-Bad.is c.loop-header.invariant.width c.loop-header.invariant.max c.next.ensures.answer))
