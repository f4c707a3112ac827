use Rattle.std.proofs.Common.{◌≡◌, ◌+◌, ◌-◌, ◌≤◌, length, take, drop, min, ap, ◌∙◌, arith}
use Rattle.std.proofs.lemmas.List.{length-take}
use Rattle.imsg_frame.proofs.Turning.{turned}
use Rattle.imsg_frame.proofs.reader.rotate.Goals as goal

-- src/reader.rt:204:5
pub loop-left-preserved : goal.loop-left-preserved
loop-left-preserved c =
    let l = c.loop-left in
    let read = c.read_into-read in
    let xs = c.args.ring.now.items in
    let piece = take c.min.result l.piece in
    let len : length piece ≡ min l.left 512 = omega (arith, length-take c.min.result l.piece, c.min.ensures, c.min.array_long) in
    let within : (c.args.count - l.left) + length piece ≤ length xs = omega (arith, len, c.requires.there, l.invariant.within) in
    let left : read.new.self.items ≡ drop read.result l.ring.items = ap (λ b. b.items) read.ensures.items in
    let room : read.new.self.capacity ≡ l.ring.capacity = ap (λ b. b.capacity) read.ensures.items in
    let now = ap (λ b. b.items) c.fill_from_slice.ensures.items in
    let capacity = ap (λ b. b.capacity) c.fill_from_slice.ensures.items in
    let fits : length xs ≤ read.new.self.capacity = omega (arith, c.requires.fits, room, l.invariant.capacity) in
    let t = turned xs l.ring.items piece read.new.dst read.new.self.items c.fill_from_slice.new.self.items (c.args.count - l.left) read.result c.fill_from_slice.result read.new.self.capacity l.invariant.items within fits read.ensures.count read.ensures.read left c.fill_from_slice.ensures.count now in
    let moved : (c.args.count - l.left) + read.result ≡ c.args.count - (l.left - read.result) = omega (arith, t.whole, len, l.invariant.within) in
    record {
      within = omega (arith, l.invariant.within);
      items = rw moved at t.items;
      capacity = capacity ∙ room ∙ l.invariant.capacity;
    }
