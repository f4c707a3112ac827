use Rattle.std.proofs.Common.{◌≡◌, ◌≤◌, ◌∙◌, length, map, ap, sym, true}
use Rattle.std.specs.Prelude.{◌==◌}
use Rattle.std.proofs.lemmas.List.{length-map}
use Rattle.policy_model.specs.Settings.{are_numbers, are_distinct}
use Rattle.toml.specs.View.{view}
use Rattle.account_file.proofs.InfoLemmas.{info_in_range}
use Rattle.account_file.proofs.info.info_items.Goals as goal

pub returns-clause-in_range : goal.returns-clause-in_range
returns-clause-in_range c =
    let vs = c.args.items.now in
    let few : length (map view vs) ≤ 32 = simp length-map c.if-items-gt-INFO_MAX.false in
    let numbers = rw c.in-Some.is at c.in_ok-info.ensures in
    let apart : are_distinct ◌==◌ c.in-Some.info.items ≡ true = ap (are_distinct ◌==◌) (sym c.as_slice.ensures.value) ∙ sym c.if-not-are_distinct_numbers.ensures in
    ap are_numbers c.of.ensures ∙ info_in_range (map view vs) c.in-Some.info.items numbers few apart
