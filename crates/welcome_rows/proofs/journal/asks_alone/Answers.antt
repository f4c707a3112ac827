use Rattle.std.proofs.Common.{◌+◌, ◌&&◌, arith, ap, length, sym, ◌∙◌}
use Rattle.std.specs.List.{list_any}
use Rattle.std.proofs.lemmas.Slice.{between_to_end}
use Rattle.login_laws.specs.Login.{asks_for}
use Rattle.welcome_rows.specs.Met.{stands_in_way}
use Rattle.welcome_rows.proofs.Asked.{all_clear, one_clear}
use Rattle.welcome_rows.proofs.journal.asks_alone.Goals as goal

pub loop-place-preserved : goal.loop-place-preserved
loop-place-preserved c =
    let user = c.args.user.now in
    let journal = c.args.journal.now in
    let place = c.loop-place.place in
    let later = between_to_end journal (place + 1) (length journal) (omega arith) in
    let free = ap (list_any (λ e. asks_for user e.ask && stands_in_way user e.session c.index-journal-place.result))
    (sym later) ∙ sym c.stands_before.ensures ∙ c.if-stands_before.false in
    λ clear. c.loop-place.invariant (one_clear user journal place c.index-journal-place.result c.loop-place-test.true
    c.index-journal-place.is free clear)

pub returns : goal.returns
returns c =
    λ all. all_clear c.args.user.now c.args.journal.now c.loop-place.place c.loop-place-test.false
    c.loop-place.invariant
