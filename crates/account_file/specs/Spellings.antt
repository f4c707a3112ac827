-- Believed: the words of keys and rules.
use Rattle.std.specs.Prelude.{ℕ, List, codes}
use Rattle.account_file.specs.declared.fault.SetupKey.{SetupKey}
use Rattle.account_file.specs.declared.fault.SetupKey.TheVariants as keys
use Rattle.account_file.specs.declared.fault.SetupRule.{SetupRule}
use Rattle.account_file.specs.declared.fault.SetupRule.TheVariants as rules

-- the word for a key of setup files
abbrev pub key_word : SetupKey → List ℕ
key_word keys.File = codes "file"
key_word keys.Other = codes "other"
key_word keys.Socket = codes "socket"
key_word keys.Launcher = codes "launcher"
key_word keys.Vault = codes "vault"
key_word keys.Words = codes "words"
key_word keys.Banner = codes "banner"
key_word keys.Salt = codes "salt"
key_word keys.Frames = codes "frames"
key_word keys.Workers = codes "workers"
key_word keys.Connections = codes "connections"
key_word keys.Requests = codes "requests"
key_word keys.Tries = codes "tries"
key_word keys.Hold = codes "hold"
key_word keys.Info = codes "info"
key_word keys.Account = codes "account"
key_word keys.Name = codes "name"
key_word keys.Uid = codes "uid"
key_word keys.Algorithm = codes "algorithm"
key_word keys.Seed = codes "seed"
key_word keys.Sequence = codes "sequence"
key_word keys.Password = codes "password"
key_word keys.Enabled = codes "enabled"
key_word keys.Grants = codes "grants"
key_word keys.GrantName = codes "grant-name"
key_word keys.GrantMode = codes "grant-mode"

-- the word for a rule of setup files
abbrev pub rule_word : SetupRule → List ℕ
rule_word rules.TooLong = codes "too-long"
rule_word rules.NotToml = codes "not-toml"
rule_word rules.Unknown = codes "unknown"
rule_word rules.Missing = codes "missing"
rule_word rules.Kind = codes "kind"
rule_word rules.Text = codes "text"
rule_word rules.Range = codes "range"
rule_word rules.Twice = codes "twice"
rule_word rules.Product = codes "product"
rule_word rules.NoHook = codes "no-hook"
