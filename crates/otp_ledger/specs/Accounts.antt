-- Believed: a ledger as contracts see it, and what each call makes of it.
use Rattle.std.specs.Prelude.{ℕ, ◌≡◌, Bool, false, ◌+◌, ◌-◌, List, [], ◌∷◌, ◌++◌, map, slice_index_or, slice_set}
use Rattle.std.specs.Prelude.{Option, Some, None, nat_eq, unwrap_or, if◌then◌else◌}
use Rattle.std.specs.List.{last_or, list_any}
use Rattle.otp_hash.specs.declared.chain.Algo.{Algo}
use Rattle.otp_hash.specs.declared.chain.Algo.TheVariants as algos
use Rattle.otp_hash.specs.Hashing.{hash_of}
use Rattle.policy_model.specs.declared.account.Account.{Account}
use Rattle.policy_model.specs.Settings.{Settings}
use Rattle.policy_model.specs.Cases.{is_holder}

-- what is known of an account: its accepted passwords in order, how many it has left, who took it last and when, who
-- holds it
pub record AccountState : Type 0 where
  pub algo : Algo
  pub enabled : Bool
  pub accepted : List ℕ
  pub sequence : ℕ
  pub taker : ℕ
  pub moment : ℕ
  pub holder : Option ℕ

-- a ledger: the setup, what is known of its accounts, how many passwords were spent and how many may be
pub record LedgerParts : Type 0 where
  pub setup : Settings
  pub accounts : List AccountState
  pub spent : ℕ
  pub cap : ℕ

-- what stands for an account that isn't there
abbrev pub no_state : AccountState
no_state = record {
  algo = algos.Md5;
  enabled = false;
  accepted = [];
  sequence = 0;
  taker = 0;
  moment = 0;
  holder = None;
}

-- what a ledger knows of the account of this number
abbrev pub state_at : LedgerParts → ℕ → AccountState
state_at l account = slice_index_or l.accounts account no_state

-- a password of this account was accepted before, or is the setup's
abbrev pub was_accepted : AccountState → ℕ → Bool
was_accepted state password = list_any (nat_eq password) state.accepted

-- the current password of an account: the one accepted last
abbrev pub current_of : AccountState → ℕ
current_of state = unwrap_or (last_or None state.accepted) 0

-- a password hashes to an account's current one and wasn't accepted before
pub record IsNextPassword (state : AccountState) (password : ℕ) : Type 0 where
  pub hashes : hash_of state.algo password ≡ current_of state
  pub unused : was_accepted state password ≡ false

-- what is known of an account before the first event
abbrev pub new_state : Account → AccountState
new_state a = record {
  algo = a.algo;
  enabled = a.enabled;
  accepted = a.password ∷ [];
  sequence = a.sequence;
  taker = 0;
  moment = 0;
  holder = None;
}

-- the ledger of a setup before the first event
abbrev pub new_ledger : Settings → ℕ → LedgerParts
new_ledger setup cap = record { setup = setup; accounts = map new_state setup.accounts; spent = 0; cap = cap }

-- an account that a session takes at a moment
abbrev pub holding : AccountState → ℕ → ℕ → AccountState
holding state session now = record state { taker = session; moment = now; holder = Some session }

-- an account of which a password is accepted
abbrev pub accepting : AccountState → ℕ → AccountState
accepting state password = record state { accepted = state.accepted ++ password ∷ []; sequence = state.sequence - 1 }

-- an account that a session holds no more
abbrev pub releasing : AccountState → ℕ → AccountState
releasing state session = record state { holder = if is_holder session state.holder then None else state.holder }

-- the ledger after each of these
abbrev pub ledger_holding : LedgerParts → ℕ → ℕ → ℕ → LedgerParts
ledger_holding l account session now =
    record l { accounts = slice_set l.accounts account (holding (state_at l account) session now) }

abbrev pub ledger_spending : LedgerParts → ℕ → ℕ → LedgerParts
ledger_spending l account password =
    record l { accounts = slice_set l.accounts account (accepting (state_at l account) password); spent = l.spent + 1 }

abbrev pub ledger_releasing : LedgerParts → ℕ → ℕ → LedgerParts
ledger_releasing l account session =
    record l { accounts = slice_set l.accounts account (releasing (state_at l account) session) }
