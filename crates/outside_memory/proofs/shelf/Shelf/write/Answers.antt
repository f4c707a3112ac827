use Rattle.std.proofs.Common.{◌≡◌, ◌≤◌, ◌∙◌, length, rules, sym, true}
use Rattle.outside_memory.proofs.ShelfLemmas.{fits-true}
use Rattle.outside_memory.proofs.shelf.Shelf.write.Goals as goal

pub returns-in_default-clause-fits : goal.returns-in_default-clause-fits
returns-in_default-clause-fits c = λ fixed.
    let some = c.len_after.ensures.some (c.is_write_within.ensures.end fixed (search rules)) in
    search (rules, some)

pub returns-in_default-take-clause-fits : goal.returns-in_default-take-clause-fits
returns-in_default-take-clause-fits c = λ fixed.
    let passes : c.is_write_within.result ≡ true = search rules in
    let fits = fits-true c.args.self.now.buffers.pieces (length c.args.name.now) (length c.file_bytes-old.result.now) c.args.offset (length c.args.bytes.now) (sym (c.is_write_within.ensures.fits fixed) ∙ passes) in
    let short : c.in-Some.len ≤ c.args.self.now.buffers.pieces.size = c.in-Some.ensures.least _ fits.1 fits.2 in
    search (rules, short, fits.0, c.take.ensures.found fixed)
