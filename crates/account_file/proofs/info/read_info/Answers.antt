use Rattle.std.proofs.Common.{◌≡◌, ◌∙◌, Option, Some, Result, List, ℕ, map, ap, sym, subst, codes}
use Rattle.std.specs.Option.{option_or}
use Rattle.toml.specs.Data.{Data, array, no_items}
use Rattle.toml.specs.View.{view, table_view}
use Rattle.toml.specs.declared.value.Value.{Value}
use Rattle.account_file.specs.declared.fault.SetupFault.{SetupFault}
use Rattle.account_file.specs.Faults.{Answers}
use Rattle.account_file.specs.Keys.{member_or}
use Rattle.account_file.specs.Numbers.{info_items}
use Rattle.account_file.specs.Setups.{read_info}
use Rattle.account_file.proofs.InfoLemmas.{info_of-view}
use Rattle.account_file.proofs.info.read_info.Goals as goal

pub returns-clause-read : goal.returns-clause-read
returns-clause-read c =
    let value = view c.in-Some.value.now in
    let there : read_info (member_or (array no_items) (codes "info") (table_view c.args.table.now)) ≡ info_items (map view c.as_slice.result.now) =
    ap (λ (o : Option Data). read_info (option_or o (Some (array no_items)))) (sym c.in-Some.ensures)
    ∙ info_of-view value c.in-Some-as_array.items.now.items c.in-Some-as_array.ensures
    ∙ ap (λ (vs : List Value). info_items (map view vs)) (sym c.as_slice.ensures.value) in
    subst (λ (r : Result (List ℕ) SetupFault). Answers (λ (n : List ℕ). n) c.info_items.result r) (sym there) c.info_items.ensures.read
