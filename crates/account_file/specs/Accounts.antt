-- Believed: what the accounts of a setup file are read as.
use Rattle.std.specs.Prelude.{ℕ, ◌+◌, Bool, true, not, List, [], ◌∷◌, Result, Ok, length, map, codes, ◌==◌}
use Rattle.std.specs.List.{list_any}
use Rattle.std.specs.Str.{bytes_eq}
use Rattle.toml.specs.Data.{Data, array, boolean, no_items, get_member, as_bool, as_table}
use Rattle.otp_hash.specs.Names.{algo_named}
use Rattle.request_catalogue.specs.Results.{◌>>=◌}
use Rattle.request_catalogue.specs.Texts.{is_name, is_label}
use Rattle.account_file.specs.declared.fault.SetupKey.{SetupKey}
use Rattle.account_file.specs.declared.fault.SetupKey.TheVariants as keys
use Rattle.account_file.specs.declared.fault.SetupRule.TheVariants as rules
use Rattle.account_file.specs.declared.fault.SetupFault.{SetupFault}
use Rattle.account_file.specs.Entries.{AccountEntry}
use Rattle.account_file.specs.Faults.{demand_at}
use Rattle.account_file.specs.Keys.{member_or, passed, read_as, read_number, read_spelled}
use Rattle.account_file.specs.Keys.{password_spelled, seed_spelled}
use Rattle.account_file.specs.Trees.{are_known, read_each}

-- the keys that a grant may have
abbrev pub grant_keys : List (List ℕ)
grant_keys = codes "name" ∷ codes "mode" ∷ []

-- the keys that an account may have
abbrev pub account_keys : List (List ℕ)
account_keys =
    map codes ("name" ∷ "uid" ∷ "algorithm" ∷ "seed" ∷ "sequence" ∷ "password" ∷ "enabled" ∷ "grants" ∷ [])

-- a value that was read, if no earlier one is the same
abbrev pub untaken : {A : Type 0} → ℕ → SetupKey → (A → Bool) → Result A SetupFault → Result A SetupFault
untaken account key is_taken read = read >>= (λ a. demand_at account key rules.Twice (passed (λ b. not (is_taken b)) a))

-- a grant from its keys, for a file that no earlier grant of the account has
abbrev pub read_grant : ℕ → List (List ℕ × ℕ) → Data → Result (List ℕ × ℕ) SetupFault
read_grant account others value = do
  entries ← demand_at account keys.Grants rules.Kind (as_table value)
  known ← demand_at account keys.Other rules.Unknown (passed (are_known grant_keys) entries)
  name ← untaken account keys.GrantName (λ name. list_any (λ other. bytes_eq other.0 name) others)
      (read_spelled account keys.GrantName (passed is_label) (get_member (codes "name") known))
  mode ← read_number account keys.GrantMode 1 3 (get_member (codes "mode") known)
  Ok (name, mode)

-- the account at a place, counted from 1; its name and its user number are new, and it is enabled if nothing is said
abbrev pub read_account : ℕ → List AccountEntry → Data → Result AccountEntry SetupFault
read_account account others value = do
  entries ← demand_at account keys.Account rules.Kind (as_table value)
  known ← demand_at account keys.Other rules.Unknown (passed (are_known account_keys) entries)
  name ← untaken account keys.Name (λ name. list_any (λ other. bytes_eq other.name name) others)
      (read_spelled account keys.Name (passed is_name) (get_member (codes "name") known))
  uid ← untaken account keys.Uid (λ uid. list_any (λ other. other.uid == uid) others)
      (read_number account keys.Uid 1 4294967294 (get_member (codes "uid") known))
  algo ← read_spelled account keys.Algorithm algo_named (get_member (codes "algorithm") known)
  seed ← read_spelled account keys.Seed seed_spelled (get_member (codes "seed") known)
  n ← read_number account keys.Sequence 0 9999 (get_member (codes "sequence") known)
  p ← read_spelled account keys.Password password_spelled (get_member (codes "password") known)
  e ← read_as account keys.Enabled as_bool (member_or (boolean true) (codes "enabled") known)
  g ← read_each account keys.Grants 64 (read_grant account) (member_or (array no_items) (codes "grants") known)
  Ok (record { name = name; uid = uid; algo = algo; seed = seed; sequence = n; password = p; enabled = e; grants = g })

-- the next account, after these others
abbrev pub next_account : List AccountEntry → Data → Result AccountEntry SetupFault
next_account others = read_account (length others + 1) others
