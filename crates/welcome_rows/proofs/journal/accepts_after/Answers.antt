use Rattle.std.proofs.Common.{◌≡◌, true}
use Rattle.welcome_rows.proofs.Told.{all_told, one_told}
use Rattle.welcome_rows.proofs.journal.accepts_after.Goals as goal

pub loop-place-preserved : goal.loop-place-preserved
loop-place-preserved c =
    let after : c.comes_after.result ≡ true = search (c.if-not-comes_after.false) in
    one_told c.args.journal.now c.args.texts c.loop-place.place c.index-journal-place.result c.index-journal-place.is
    (c.comes_after.ensures after) c.loop-place.invariant

pub returns : goal.returns
returns c =
    λ all. all_told c.args.journal.now c.args.texts c.loop-place.place c.loop-place-test.false c.loop-place.invariant
