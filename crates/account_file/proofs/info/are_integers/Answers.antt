use Rattle.std.proofs.Common.{◌≤◌, ◌∙◌, ◌<◌, length, map, ap, sym}
use Rattle.std.specs.List.{list_all}
use Rattle.std.specs.Option.{is_some}
use Rattle.std.proofs.lemmas.List.{length-map, drop_all}
use Rattle.std.proofs.Math.ListN.{get_or-map}
use Rattle.toml.specs.Data.{Data, as_integer}
use Rattle.toml.specs.View.{view}
use Rattle.account_file.proofs.InfoLemmas.{fails_at, passes_at}
use Rattle.account_file.proofs.info.are_integers.Goals as goal

pub returns-then-not-is_integer : goal.returns-then-not-is_integer
returns-then-not-is_integer c =
    let vs = c.args.items.now in
    let i = c.loop-item.item-index in
    let d = view c.item-item.result in
    let within : i < length (map view vs) = simp length-map c.loop-item-test.true in
    let at = get_or-map view vs i c.item-item.result ∙ ap view (sym c.item-item.is) in
    fails_at (λ (x : Data). is_some (as_integer x)) (map view vs) i d _ within (ap (λ (x : Data). is_some (as_integer x)) at ∙ sym c.if-not-is_integer.ensures) c.loop-item.invariant

pub loop-item-preserved : goal.loop-item-preserved
loop-item-preserved c =
    let vs = c.args.items.now in
    let i = c.loop-item.item-index in
    let d = view c.item-item.result in
    let within : i < length (map view vs) = simp length-map c.loop-item-test.true in
    let at = get_or-map view vs i c.item-item.result ∙ ap view (sym c.item-item.is) in
    passes_at (λ (x : Data). is_some (as_integer x)) (map view vs) i d _ within (ap (λ (x : Data). is_some (as_integer x)) at ∙ sym c.if-not-is_integer.ensures) c.loop-item.invariant

pub returns : goal.returns
returns c =
    let le : length (map view c.args.items.now) ≤ c.loop-item.item-index = simp length-map c.loop-item-test.false in
    sym (ap (list_all (λ (x : Data). is_some (as_integer x))) (drop_all c.loop-item.item-index (map view c.args.items.now) le)) ∙ c.loop-item.invariant
