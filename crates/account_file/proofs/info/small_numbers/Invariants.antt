use Rattle.std.proofs.Common.{map}
use Rattle.std.specs.Option.{option_and_then}
use Rattle.toml.specs.Data.{as_integer}
use Rattle.toml.specs.View.{view}
use Rattle.account_file.specs.Keys.{number_in}
use Rattle.account_file.proofs.InfoLemmas.{IsSomeTo}
use Rattle.account_file.proofs.info.small_numbers.Given as goal

abbrev pub invariant-loop-item : goal.invariant-loop-item
invariant-loop-item l = IsSomeTo (λ d. option_and_then (number_in 1 1000) (as_integer d)) (map view l.items) l.item-index l.small.items
