use Rattle.std.proofs.Common.{◌≡◌, Some, ap, length}
use Rattle.outside_memory.proofs.ReceivingLemmas.{Goes-gave, left-none}
use Rattle.outside_memory.proofs.stream.MemStreamStream.recv.Goals as goal

pub returns-clause-link : goal.returns-clause-link
returns-clause-link c =
    let input = c.args.self.now.input in
    let noted = c.note_receiving.new in
    Goes-gave c.args.self.now.output.telling noted.output.telling input.bytes.items c.args.self.now.output.bytes.items _ c.give.new.self.bytes.items noted.output.bytes.items input.taken c.give.result c.give.new.self.taken (Some c.args.self.now.receivings) (Some noted.receivings) c.note_receiving.ensures.telling (ap (λ b. b.items) c.give.ensures.given.bytes) (ap (λ b. b.items) c.note_receiving.ensures.bytes) c.give.ensures.given.taken c.give.ensures.front

pub returns-clause-end : goal.returns-clause-end
returns-clause-end c = λ e.
    let input = c.args.self.now.input in
    let noted = c.note_receiving.new in
    let none : c.give.result ≡ 0 = cc in
    left-none noted.output.telling input.bytes.items noted.output.bytes.items c.give.new.self.bytes.items input.cuts input.taken c.give.result (length c.args.buf.now) c.give.new.self.taken (Some noted.receivings) input.each_cut (λ told. c.args.self.now.some_cut (c.note_receiving.ensures.telling told)) (ap (λ b. b.items) c.give.ensures.given.bytes) c.give.ensures.given.taken c.requires c.give.ensures.piece none
