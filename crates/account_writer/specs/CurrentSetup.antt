-- Believed: a setup with what a ledger knows of its accounts.
use Rattle.std.specs.Prelude.{ℕ, List, map}
use Rattle.std.specs.List.{zip}
use Rattle.policy_model.specs.declared.account.Account.{Account}
use Rattle.policy_model.specs.declared.event.Event.{Event}
use Rattle.policy_model.specs.Logins.{account_after}
use Rattle.policy_model.specs.Settings.{Settings}
use Rattle.otp_ledger.specs.Accounts.{AccountState, LedgerParts, current_of}
use Rattle.otp_ledger.specs.Standing.{StandsFor}
use Rattle.account_writer.specs.Written.{IsFileOf}

-- an account with the sequence and the password that a ledger knows of it
abbrev pub current_account : Account → AccountState → Account
current_account a state = record a { sequence = state.sequence; password = current_of state }

-- a setup's accounts, each with what a ledger knows of it
abbrev pub current_accounts : List Account → List AccountState → List Account
current_accounts accounts states = map (λ p. current_account p.0 p.1) (zip accounts states)

-- a setup with each account's sequence and password as a ledger knows them, all else as before
abbrev pub current_setup : Settings → List AccountState → Settings
current_setup setup states = record setup { accounts = current_accounts setup.accounts states }

-- the setup after a journal: each account's sequence and password as the journal leaves them, all else as before
abbrev pub setup_after : Settings → List Event → Settings
setup_after setup journal = record setup { accounts = map (account_after journal) setup.accounts }

-- bytes are the file of the setup after each journal that a ledger stands for
pub record IsSetupAfter (setup : Settings) (l : LedgerParts) (bytes : List ℕ) : Type 0 where
  pub by_journal : (journal : List Event) → StandsFor l journal → IsFileOf (setup_after setup journal) bytes
