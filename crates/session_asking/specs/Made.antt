-- Inner: what the memory of a worker's answers holds, and what answers are made of.
use Rattle.std.specs.Prelude.{ℕ, List, Option, option_map, take}
use Rattle.policy_model.specs.declared.account.Account.{Account}
use Rattle.policy_model.specs.declared.decoy.Decoy.{Decoy}
use Rattle.session_asking.specs.declared.exported.Exported.{Exported}

-- the bytes that were exported
abbrev pub exported_bytes : Exported → List ℕ
exported_bytes exported = take exported.len exported.bytes.items

-- what the challenge of an account names, with this number
abbrev pub own_naming : ℕ → Account → Decoy
own_naming value account = record { algo = account.algo; n = value; seed = account.seed }

abbrev pub naming_of : ℕ → Option Account → Option Decoy
naming_of value account = option_map (own_naming value) account
