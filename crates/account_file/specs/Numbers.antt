-- Inner: the numbers of information, as the code reads them.
use Rattle.std.specs.Prelude.{ℕ, List, [], ◌∷◌, Option, Some, Result, length, nat_le, ◌==◌}
use Rattle.std.specs.List.{list_all}
use Rattle.std.specs.Option.{is_some, option_and_then, option_map}
use Rattle.toml.specs.Data.{Data, as_integer}
use Rattle.request_catalogue.specs.Results.{◌>>=◌}
use Rattle.policy_model.specs.Settings.{are_distinct}
use Rattle.account_file.specs.declared.fault.SetupFault.{SetupFault}
use Rattle.account_file.specs.declared.fault.SetupKey.TheVariants.{Info}
use Rattle.account_file.specs.declared.fault.SetupRule.TheVariants as rules
use Rattle.account_file.specs.Faults.{demand_at}
use Rattle.account_file.specs.Keys.{number_in, passed}

-- what each element passes as, if all pass
abbrev pub all_some : {A B : Type 0} → (A → Option B) → List A → Option (List B)
all_some test [] = Some []
all_some test (a ∷ rest) = option_and_then (λ b. option_map (λ bs. b ∷ bs) (all_some test rest)) (test a)

-- the number of information that an item is
abbrev pub info_number : Data → Option ℕ
info_number d = option_and_then (number_in 1 1000) (as_integer d)

-- the numbers of the items of an array
abbrev pub info_items : List Data → Result (List ℕ) SetupFault
info_items items = do
  integers ← demand_at 0 Info rules.Kind (passed (list_all (λ d. is_some (as_integer d))) items)
  few ← demand_at 0 Info rules.Range (passed (λ ds. nat_le (length ds) 32) integers)
  info ← demand_at 0 Info rules.Range (all_some info_number few)
  demand_at 0 Info rules.Twice (passed (are_distinct ◌==◌) info)
