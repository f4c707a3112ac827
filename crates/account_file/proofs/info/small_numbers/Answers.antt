use Rattle.std.proofs.Common.{◌≡◌, ◌∙◌, ◌<◌, length, map, get_or, ap, sym}
use Rattle.std.proofs.lemmas.List.{length-map}
use Rattle.std.proofs.Math.ListN.{get_or-map}
use Rattle.toml.specs.View.{view}
use Rattle.account_file.specs.Numbers.{info_number}
use Rattle.account_file.proofs.InfoLemmas.{some_stop, some_more}
use Rattle.account_file.proofs.info.small_numbers.Goals as goal

pub returns-in-None : goal.returns-in-None
returns-in-None c =
    let vs = c.args.items.now in
    let i = c.loop-item.item-index in
    let d = view c.item-item.result in
    let within : i < length (map view vs) = simp length-map c.loop-item-test.true in
    let at : get_or (map view vs) i d ≡ d = get_or-map view vs i c.item-item.result ∙ ap view (sym c.item-item.is) in
    sym (some_stop info_number (map view vs) i c.loop-item.small.items d c.loop-item.invariant within (ap info_number at ∙ sym c.in-None.ensures))

pub loop-item-preserved : goal.loop-item-preserved
loop-item-preserved c =
    let vs = c.args.items.now in
    let i = c.loop-item.item-index in
    let d = view c.item-item.result in
    let within : i < length (map view vs) = simp length-map c.loop-item-test.true in
    let at : get_or (map view vs) i d ≡ d = get_or-map view vs i c.item-item.result ∙ ap view (sym c.item-item.is) in
    rw c.in_ok-push-in-Some.ensures.items (some_more info_number (map view vs) i c.loop-item.small.items d c.in-Some.number c.loop-item.invariant within (ap info_number at ∙ sym c.in-Some.ensures))
