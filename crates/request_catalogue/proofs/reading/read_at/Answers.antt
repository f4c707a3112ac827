use Rattle.request_catalogue.proofs.FieldLemmas.{asked_by-ReadAt, option_map-then_some}
use Rattle.request_catalogue.proofs.reading.read_at.Goals as goal

pub returns : goal.returns
returns c =
    let row = asked_by-ReadAt c.args.width c.args.payload.now c.in_ok-handle.rest.now c.in_ok-offset.rest.now c.in_ok-max.rest.now c.in_ok-handle.handle c.in_ok-offset.offset c.in_ok-max.max c.in_ok-handle.ensures c.in_ok-offset.ensures c.in_ok-max.ensures in
    rw (row, c.then_some.ensures, c.ends_read.ensures) (option_map-then_some _ _)
