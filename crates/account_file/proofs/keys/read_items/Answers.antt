use Rattle.std.proofs.Common.{◌∙◌, ◌<◌, ◌≤◌, length, map, sym, ap, arith, Err, Ok, List}
use Rattle.toml.specs.View.{view}
use Rattle.toml.specs.declared.value.Value.{Value}
use Rattle.account_file.specs.declared.fault.SetupFault.{SetupFault}
use Rattle.account_file.proofs.KeyLemmas.{items_few, items_many}
use Rattle.account_file.proofs.keys.read_items.Goals as goal

pub returns-then-len-most-clause-read : goal.returns-then-len-most-clause-read
returns-then-len-most-clause-read c =
    let many : c.args.most < length c.in-Some.items.now.items = omega (arith, c.len.ensures, c.in-Some.items.now.ok.0) in
    items_many c.args.spot c.args.most (view c.args.value.now) c.in-Some.items.now.items c.in-Some.ensures many
    ∙ ap (λ (f : SetupFault). Err f) (sym c.breaks-then-len-most.ensures)

pub returns-clause-read : goal.returns-clause-read
returns-clause-read c =
    let few : length c.in-Some.items.now.items ≤ c.args.most = omega (arith, c.len.ensures, c.in-Some.items.now.ok.0) in
    items_few c.args.spot c.args.most (view c.args.value.now) c.in-Some.items.now.items c.in-Some.ensures few
    ∙ ap (λ (vs : List Value). Ok (map view vs)) (sym c.as_slice.ensures.value)
