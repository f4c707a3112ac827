-- Believed: what single keys of a setup file are read as.
use Rattle.std.specs.Prelude.{ℕ, ℤ, pos, negsuc, Bool, List, Option, Some, None, Result, map, codes}
use Rattle.std.specs.Bool.{then_some}
use Rattle.std.specs.Char.{to_ascii_lowercase}
use Rattle.std.specs.Int.{w64, from_be_bytes}
use Rattle.std.specs.Option.{option_map, option_or}
use Rattle.std.specs.Result.{result_ok}
use Rattle.std.specs.Str.{bytes_eq}
use Rattle.hex.specs.Hex.{decode_sized}
use Rattle.toml.specs.Data.{Data, Members, as_str, as_integer, get_member}
use Rattle.otp_hash.specs.Seeds.{is_seed_text}
use Rattle.request_catalogue.specs.declared.width.Width.{Width}
use Rattle.request_catalogue.specs.declared.width.Width.TheVariants.{Narrow, Wide}
use Rattle.request_catalogue.specs.Results.{◌>>=◌}
use Rattle.policy_model.specs.Settings.{is_number}
use Rattle.account_file.specs.declared.fault.SetupKey.{SetupKey}
use Rattle.account_file.specs.declared.fault.SetupRule.TheVariants as rules
use Rattle.account_file.specs.declared.fault.SetupFault.{SetupFault}
use Rattle.account_file.specs.Faults.{demand_at}

-- the value at a key that must be there, of the kind that `kind` takes
abbrev pub read_as : {A : Type 0} → ℕ → SetupKey → (Data → Option A) → Option Data → Result A SetupFault
read_as account key kind value =
    demand_at account key rules.Missing value >>= (λ there. demand_at account key rules.Kind (kind there))

-- what the string at a key spells
abbrev pub read_spelled : {A : Type 0} → ℕ → SetupKey → (List ℕ → Option A) → Option Data → Result A SetupFault
read_spelled account key spells value =
    read_as account key as_str value >>= (λ bytes. demand_at account key rules.Text (spells bytes))

-- a value that passes the test
abbrev pub passed : {A : Type 0} → (A → Bool) → A → Option A
passed test a = then_some (test a) a

-- a whole number from `low` to `high`
abbrev pub number_in : ℕ → ℕ → ℤ → Option ℕ
number_in low high (pos n) = then_some (is_number low high n) n
number_in low high (negsuc n) = None

-- the whole number at a key, from `low` to `high`
abbrev pub read_number : ℕ → SetupKey → ℕ → ℕ → Option Data → Result ℕ SetupFault
read_number account key low high value =
    read_as account key as_integer value >>= (λ number. demand_at account key rules.Range (number_in low high number))

-- the value at a key, or this one if the key is missing
abbrev pub member_or : Data → List ℕ → Members → Option Data
member_or default key entries = option_or (get_member key entries) (Some default)

-- the width of frames that a word names
abbrev pub width_named : List ℕ → Option Width
width_named w = option_or (then_some (bytes_eq w (codes "narrow")) Narrow) (then_some (bytes_eq w (codes "wide")) Wide)

-- the seed that a text spells, in lower case
abbrev pub seed_spelled : List ℕ → Option (List ℕ)
seed_spelled bytes = then_some (is_seed_text bytes) (map to_ascii_lowercase bytes)

-- the password that 16 hexadecimal digits spell, the most significant first
abbrev pub password_spelled : List ℕ → Option ℕ
password_spelled bytes = option_map (from_be_bytes w64) (result_ok (decode_sized bytes 8))
