-- Inner: what is kept of an account, and what it stands for.
use Rattle.std.specs.Prelude.{ℕ, zero, suc, false, ◌-◌, List, [], ◌∷◌, reverse, slice_index_or, slice_set, Some, None}
use Rattle.std.specs.Prelude.{if◌then◌else◌}
use Rattle.otp_hash.specs.declared.chain.Algo.{Algo}
use Rattle.otp_hash.specs.declared.chain.Algo.TheVariants as algos
use Rattle.otp_hash.specs.Hashing.{hash_of}
use Rattle.policy_model.specs.declared.account.Account.{Account}
use Rattle.policy_model.specs.Cases.{is_holder}
use Rattle.otp_ledger.specs.declared.rows.AccountRow.{AccountRow}
use Rattle.otp_ledger.specs.Accounts.{AccountState}

-- a password and its images under the hash step, so many of them
unfoldable pub images : Algo → ℕ → ℕ → List ℕ
images algo zero password = password ∷ []
images algo (suc n) password = password ∷ images algo n (hash_of algo password)

-- the accepted passwords, the current one first: it and its images, as many as were spent
abbrev pub spent_of : AccountRow → List ℕ
spent_of row = images row.algo (row.start - row.sequence) row.password

-- the account that a row stands for
abbrev pub state_of : AccountRow → AccountState
state_of row = record {
  algo = row.algo;
  enabled = row.enabled;
  accepted = reverse (spent_of row);
  sequence = row.sequence;
  taker = row.taker;
  moment = row.moment;
  holder = row.holder;
}

-- any row
abbrev pub no_row : AccountRow
no_row = record {
  algo = algos.Md5;
  enabled = false;
  start = 0;
  sequence = 0;
  password = 0;
  taker = 0;
  moment = 0;
  holder = None;
}

-- the row of a number
abbrev pub row_at : List AccountRow → ℕ → AccountRow
row_at rows account = slice_index_or rows account no_row

-- the row of an account before the first event
abbrev pub new_row : Account → AccountRow
new_row a = record {
  algo = a.algo;
  enabled = a.enabled;
  start = a.sequence;
  sequence = a.sequence;
  password = a.password;
  taker = 0;
  moment = 0;
  holder = None;
}

abbrev pub held : AccountRow → ℕ → ℕ → AccountRow
held row session now = record row { taker = session; moment = now; holder = Some session }

abbrev pub spending : AccountRow → ℕ → AccountRow
spending row password = record row { sequence = row.sequence - 1; password = password }

abbrev pub released : AccountRow → ℕ → AccountRow
released row session = record row { holder = if is_holder session row.holder then None else row.holder }

-- the rows after each of these
abbrev pub rows_holding : List AccountRow → ℕ → ℕ → ℕ → List AccountRow
rows_holding rows account session now = slice_set rows account (held (row_at rows account) session now)

abbrev pub rows_spending : List AccountRow → ℕ → ℕ → List AccountRow
rows_spending rows account password = slice_set rows account (spending (row_at rows account) password)

abbrev pub rows_releasing : List AccountRow → ℕ → ℕ → List AccountRow
rows_releasing rows account session = slice_set rows account (released (row_at rows account) session)
