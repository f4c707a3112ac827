use Rattle.std.proofs.Common.{◌≡◌, ◌∙◌, Some, None, sym}
use Rattle.std.proofs.lemmas.List.{get_or_default}
use Rattle.session_table.specs.Tables.{row_in}
use Rattle.session_table.proofs.table.put_use.Goals as goal

pub advance_use-requires-clause-asked : goal.advance_use-requires-clause-asked
advance_use-requires-clause-asked c =
    let here : row_in c.args.rows.now.items c.args.worker ≡ Some c.in-Some.row = get_or_default c.args.rows.now.items c.args.worker None c.index_mut.result.now c.requires.worker ∙ sym c.index_mut.ensures.value ∙ c.in-Some.is in
    (c.requires.fits.fits c.in-Some.row here).asked_below
