-- Inner: faults and arrays at their keys, as the code reads them.
use Rattle.std.specs.Prelude.{ℕ, List, Result, length, nat_le}
use Rattle.request_catalogue.specs.Results.{◌>>=◌}
use Rattle.toml.specs.Data.{Data, as_array}
use Rattle.account_file.specs.declared.fault.SetupFault.{SetupFault}
use Rattle.account_file.specs.declared.fault.SetupRule.{SetupRule}
use Rattle.account_file.specs.declared.fault.SetupRule.TheVariants as rules
use Rattle.account_file.specs.declared.fault.Spot.{Spot}
use Rattle.account_file.specs.Faults.{demand_at}
use Rattle.account_file.specs.Keys.{passed}
use Rattle.account_file.specs.Trees.{data_of}

-- the fault that the value at this key breaks this rule
abbrev pub spot_fault : Spot → SetupRule → SetupFault
spot_fault spot rule = record { key = spot.key; rule = rule; account = spot.account }

-- the items of an array of at most so many
abbrev pub read_items : Spot → ℕ → Data → Result (List Data) SetupFault
read_items spot most value = do
  items ← demand_at spot.account spot.key rules.Kind (as_array value)
  demand_at spot.account spot.key rules.Range (passed (λ ds. nat_le (length ds) most) (data_of items))
