use Rattle.std.proofs.Common.{◌≡◌, None, ap, length, refl}
use Rattle.outside_memory.proofs.ReceivingLemmas.{Goes-gave, left-none}
use Rattle.outside_memory.proofs.quiet_stream.QuietStreamStream.recv.Goals as goal

pub returns-clause-link : goal.returns-clause-link
returns-clause-link c =
    let input = c.args.self.now.input in
    Goes-gave c.args.self.now.output.telling c.args.self.now.output.telling input.bytes.items c.args.self.now.output.bytes.items _ c.give.new.self.bytes.items c.args.self.now.output.bytes.items input.taken c.give.result c.give.new.self.taken None None (λ told. told) (ap (λ b. b.items) c.give.ensures.given.bytes) refl c.give.ensures.given.taken c.give.ensures.front

pub returns-clause-end : goal.returns-clause-end
returns-clause-end c = λ e.
    let input = c.args.self.now.input in
    let none : c.give.result ≡ 0 = cc in
    left-none c.args.self.now.output.telling input.bytes.items c.args.self.now.output.bytes.items c.give.new.self.bytes.items input.cuts input.taken c.give.result (length c.args.buf.now) c.give.new.self.taken None input.each_cut c.args.self.now.some_cut (ap (λ b. b.items) c.give.ensures.given.bytes) c.give.ensures.given.taken c.requires c.give.ensures.piece none
