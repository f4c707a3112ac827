-- Believed: the bytes written for a setup, and for one account after it.
use Rattle.std.specs.Prelude.{ℕ, ◌≡◌, ◌≤◌, false, true, List, [], ◌∷◌, ◌++◌, length, map, codes, nat_lt, Result, Ok}
use Rattle.std.specs.Prelude.{IsUtf8}
use Rattle.std.specs.List.{list_all}
use Rattle.toml.specs.Data.{array, no_items}
use Rattle.toml.specs.Text.{IsDocumentText}
use Rattle.request_catalogue.specs.Results.{◌>>=◌}
use Rattle.policy_model.specs.declared.account.Account.{Account}
use Rattle.policy_model.specs.Settings.{IsInRange, Settings}
use Rattle.account_file.specs.declared.fault.SetupFault.{SetupFault}
use Rattle.account_file.specs.declared.fault.SetupKey.TheVariants as keys
use Rattle.account_file.specs.declared.fault.SetupRule.TheVariants as rules
use Rattle.account_file.specs.Accounts.{next_account}
use Rattle.account_file.specs.Entries.{AccountEntry, account_entry, entries_of}
use Rattle.account_file.specs.Faults.{demand_at}
use Rattle.account_file.specs.Keys.{member_or}
use Rattle.account_file.specs.Setups.{document_of, setup_of}
use Rattle.account_file.specs.Trees.{read_each}
use Rattle.account_writer.specs.Tables.{account_data, setup_members}

-- a setup with one account more, the last
abbrev pub with_account : Settings → Account → Settings
with_account s a = record s { accounts = s.accounts ++ a ∷ [] }

-- these bytes are the TOML file that is written for a setup, no longer than a reader takes
pub record IsFileOf (s : Settings) (bytes : List ℕ) : Type 0 where
  pub in_range : IsInRange s
  pub passwords : list_all (λ a. nat_lt a.password 18446744073709551616) s.accounts ≡ true
  pub utf8 : IsUtf8 bytes
  pub lines : IsDocumentText false (setup_members s (map account_data s.accounts)) bytes
  pub few : length bytes ≤ 8388608

-- the accounts that these bytes spell, whatever else of a setup is there or missing
abbrev pub accounts_of : List ℕ → Result (List AccountEntry) SetupFault
accounts_of bytes = do
  entries ← demand_at 0 keys.File rules.NotToml (document_of bytes)
  read_each 0 keys.Account 1024 next_account (member_or (array no_items) (codes "account") entries)

-- these bytes spell this account alone; appended to a setup's file, they spell that setup with this account, if it then
-- is in its ranges
pub record IsTextOf (a : Account) (text : List ℕ) : Type 0 where
  pub alone : accounts_of text ≡ Ok (account_entry a ∷ [])
  pub written : (s : Settings) (bytes : List ℕ) → IsFileOf s bytes → IsInRange (with_account s a)
      → IsFileOf (with_account s a) (bytes ++ text)
  pub read : (s : Settings) (bytes : List ℕ) → IsFileOf s bytes → IsInRange (with_account s a)
      → setup_of (bytes ++ text) ≡ Ok (entries_of (with_account s a))
