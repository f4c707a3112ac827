use Rattle.std.proofs.Common.{◌≡◌, map, drop}
use Rattle.std.specs.List.{list_all}
use Rattle.std.specs.Option.{is_some}
use Rattle.toml.specs.Data.{as_integer}
use Rattle.toml.specs.View.{view}
use Rattle.account_file.proofs.info.are_integers.Given as goal

abbrev pub invariant-loop-item : goal.invariant-loop-item
invariant-loop-item l = list_all (λ d. is_some (as_integer d)) (drop l.item-index (map view l.items)) ≡ list_all (λ d. is_some (as_integer d)) (map view l.items)
