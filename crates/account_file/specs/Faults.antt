-- Believed: values that are read, or the first fault.
use Rattle.std.specs.Prelude.{◌≡◌, ℕ, Option, Result, Ok, Err, ok_or}
use Rattle.account_file.specs.declared.fault.SetupKey.{SetupKey}
use Rattle.account_file.specs.declared.fault.SetupRule.{SetupRule}
use Rattle.account_file.specs.declared.fault.SetupFault.{SetupFault}
use Rattle.account_file.specs.declared.fault.SetupError.{SetupError}
use Rattle.account_file.specs.declared.fault.SetupError.TheVariants.{Refused, OutOfMemory}

-- a value if it is there, otherwise the fault of this rule at this key of an account, or of the setup itself at 0
abbrev pub demand_at : {A : Type 0} → ℕ → SetupKey → SetupRule → Option A → Result A SetupFault
demand_at account key rule there = ok_or there (record { key = key; rule = rule; account = account })

-- a result is the value that a definition gives, seen by a view, or its fault
abbrev pub Reads : {A B : Type 0} → (A → B) → Result A SetupFault → Result B SetupFault → Type 0
Reads view (Ok a) expected = expected ≡ Ok (view a)
Reads view (Err fault) expected = expected ≡ Err fault

-- the same of a result that may be out of memory, of which nothing is said
abbrev pub Answers : {A B : Type 0} → (A → B) → Result A SetupError → Result B SetupFault → Type 0
Answers view (Ok a) expected = expected ≡ Ok (view a)
Answers view (Err (Refused fault)) expected = expected ≡ Err fault
Answers view (Err OutOfMemory) expected = Unit {0}
