-- Inner: the keys that have a meaning, by the kind of table.
use Rattle.std.specs.Prelude.{ℕ, List}
use Rattle.account_file.specs.declared.known.Level.{Level}
use Rattle.account_file.specs.declared.known.Level.TheVariants as levels
use Rattle.account_file.specs.Accounts.{grant_keys, account_keys}
use Rattle.account_file.specs.Setups.{setup_keys}

-- the keys that have a meaning in a table of that kind
abbrev pub keys_at : Level → List (List ℕ)
keys_at levels.File = setup_keys
keys_at levels.Account = account_keys
keys_at levels.Grant = grant_keys
