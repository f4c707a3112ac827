-- Believed: tables and arrays of a TOML document.
use Rattle.std.specs.Prelude.{ℕ, Bool, true, ◌&&◌, List, [], ◌∷◌, ◌++◌, Option, Result, Ok, length, nat_le}
use Rattle.std.specs.List.{list_any}
use Rattle.std.specs.Str.{bytes_eq}
use Rattle.request_catalogue.specs.Results.{◌>>=◌}
use Rattle.toml.specs.Data.{Data, Items, no_items, item, Members, no_members, member, as_array}
use Rattle.account_file.specs.declared.fault.SetupFault.{SetupFault}
use Rattle.account_file.specs.declared.fault.SetupKey.{SetupKey}
use Rattle.account_file.specs.declared.fault.SetupRule.TheVariants as rules
use Rattle.account_file.specs.Faults.{demand_at}
use Rattle.account_file.specs.Keys.{passed, read_as}

-- the items of an array as a list
abbrev pub data_of : Items → List Data
data_of no_items = []
data_of (item d ds) = d ∷ data_of ds

-- a table has no keys but these
abbrev pub are_known : List (List ℕ) → Members → Bool
are_known known no_members = true
are_known known (member k d ms) = list_any (bytes_eq k) known && are_known known ms

-- items read one after the other, each with those before it at hand, or the first fault
abbrev pub read_behind : {A E : Type 0} → (List A → Data → Result A E) → List A → List Data → Result (List A) E
read_behind read earlier [] = Ok earlier
read_behind read earlier (d ∷ ds) = read earlier d >>= (λ a. read_behind read (earlier ++ a ∷ []) ds)

-- the items of an array of at most so many, each read after those before it
abbrev pub read_each : {A : Type 0} → ℕ → SetupKey → ℕ → (List A → Data → Result A SetupFault) → Option Data
    → Result (List A) SetupFault
read_each account key most read value = do
  items ← read_as account key as_array value
  demand_at account key rules.Range (passed (λ ds. nat_le (length ds) most) (data_of items)) >>= read_behind read []
