-- Believed: the setup of a drill.
use Rattle.std.specs.Prelude.{◌≡◌, ℕ, ◌+◌, true, List, [], ◌∷◌, codes, length, slice_get, Some}
use Rattle.request_catalogue.specs.TextBytes.{label_bytes, name_bytes}
use Rattle.otp_hash.specs.SeedBytes.{seed_bytes}
use Rattle.policy_model.specs.declared.account.Account.{Account}
use Rattle.policy_model.specs.declared.account.Grant.{Grant}
use Rattle.policy_model.specs.Settings.{Settings, plain_settings}
use Rattle.drill_plan.specs.Passwords.{own_algo, own_name, own_password, own_seed, session_count}

-- each user's one grant: its file `notes`, to read and to write
abbrev pub AreDrillGrants : List Grant → Type 0
AreDrillGrants (grant ∷ []) = (label_bytes grant.name ≡ codes "notes") × (grant.mode ≡ 3)
AreDrillGrants _ = ⊥

-- the account of a worker's user in the drill of n
pub record IsDrillAccount (n worker : ℕ) (account : Account) : Type 0 where
  pub name : name_bytes account.name ≡ own_name worker
  pub uid : account.uid ≡ 2000 + worker
  pub algo : account.algo ≡ own_algo worker
  pub seed : seed_bytes account.seed ≡ own_seed worker
  pub sequence : account.sequence ≡ session_count n
  pub password : account.password ≡ own_password n worker (session_count n)
  pub enabled : account.enabled ≡ true
  pub grants : AreDrillGrants account.grants

-- the accounts of the drill of n: one for each of four workers, in their order
pub record AreDrillAccounts (n : ℕ) (accounts : List Account) : Type 0 where
  pub four : length accounts ≡ 4
  pub each : (worker : ℕ) (account : Account) → slice_get accounts worker ≡ Some account
      → IsDrillAccount n worker account

-- the setup of the drill of n: the plain one, with four workers, their accounts, and 16 requests a session
pub record IsDrillSetup (n : ℕ) (setup : Settings) : Type 0 where
  pub plain : setup ≡ record plain_settings {
    workers = 4;
    connections = session_count n;
    requests = 16;
    tries = 3;
    hold = 30000;
    accounts = setup.accounts;
  }
  pub accounts : AreDrillAccounts n setup.accounts
