use Rattle.request_catalogue.proofs.FieldLemmas.{asked_by-WriteAt, option_map-then_some}
use Rattle.request_catalogue.proofs.reading.write_at.Goals as goal

pub returns : goal.returns
returns c =
    let row = asked_by-WriteAt c.args.width c.args.payload.now c.in_ok-handle.rest.now c.in_ok-offset.bytes.now c.in_ok-handle.handle c.in_ok-offset.offset c.in_ok-handle.ensures c.in_ok-offset.ensures in
    rw (row, c.then_some.ensures, c.fit_write.ensures) (option_map-then_some _ _)
