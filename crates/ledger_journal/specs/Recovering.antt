-- Believed: what recovery answers for the records of a log.
use Rattle.std.specs.Prelude.{ℕ, ◌≡◌, ◌<◌, ◌+◌, ◌⊎◌, ◌&&◌, Bool, true, false, not, List, [], ◌∷◌, ◌++◌, length, map}
use Rattle.std.specs.Prelude.{slice_get, Some, None, Result, Ok, Err}
use Rattle.policy_model.specs.declared.account.Account.{Account}
use Rattle.policy_model.specs.declared.ranges.TheConstants.{EVENTS_LIMIT}
use Rattle.policy_model.specs.Settings.{Settings}
use Rattle.durable_log.specs.Records.{HasRecords}
use Rattle.otp_ledger.specs.Accounts.{LedgerParts, new_state, state_at}
use Rattle.ledger_journal.specs.declared.answer.Recovered.{Recovered}
use Rattle.ledger_journal.specs.declared.answer.RecoverError.{RecoverError}
use Rattle.ledger_journal.specs.declared.answer.RecoverError.TheVariants as errors
use Rattle.ledger_journal.specs.declared.login.Login.{Login}
use Rattle.ledger_journal.specs.Lines.{line_at}
use Rattle.ledger_journal.specs.Logins.{Verifies, left_of, logins_of, state_after}

-- the record at this place, counted from 1, is beyond the most lines of a run, or no line with its place as number
pub record IsNoLine (records : List (List ℕ)) (number : ℕ) : Type 0 where
  pub place : ℕ
  pub bytes : List ℕ
  pub stands : slice_get records place ≡ Some bytes
  pub counted : number ≡ place + 1
  pub fault : (EVENTS_LIMIT < number) ⊎ (line_at number bytes ≡ None)

-- of the replies that have to be spent in order, the one of this line doesn't verify after those before it
pub record IsRefused (setup : Settings) (left : List Login) (number : ℕ) : Type 0 where
  pub before : List Login
  pub login : Login
  pub later : List Login
  pub parts : left ≡ before ++ login ∷ later
  pub counted : number ≡ login.line
  pub refused : Verifies setup before login → ⊥

-- the record at this place has a fault: it is no line with its number, or its reply doesn't verify
abbrev pub HasFault : Settings → List (List ℕ) → ℕ → Type 0
HasFault setup records number =
    IsNoLine records number ⊎ IsRefused setup (left_of setup (logins_of setup records)) number

-- the record at this place has a fault, and none before it has one
pub record IsFirstFault (setup : Settings) (records : List (List ℕ)) (number : ℕ) : Type 0 where
  pub here : HasFault setup records number
  pub none_before : (earlier : ℕ) → earlier < number → HasFault setup records earlier → ⊥

-- a ledger of the setup knows of each account what is known once these replies are accepted
pub record HasAccepted (setup : Settings) (logins : List Login) (l : LedgerParts) : Type 0 where
  pub made : l.setup ≡ setup
  pub same : length l.accounts ≡ length setup.accounts
  pub states : (number : ℕ) (account : Account) → slice_get setup.accounts number ≡ Some account → state_at l number
      ≡ state_after logins number account

-- a ledger knows what the setup says, and no more
pub record IsOwn (setup : Settings) (l : LedgerParts) : Type 0 where
  pub made : l.setup ≡ setup
  pub states : l.accounts ≡ map new_state setup.accounts

-- no replies are left
abbrev pub is_none_left : List Login → Bool
is_none_left [] = true
is_none_left (login ∷ left) = false

-- what records without a fault bring back: their counts, whether the setup had all replies, and the ledger
pub record IsRecovered (setup : Settings) (records : List (List ℕ)) (r : Recovered) : Type 0 where
  pub no_fault : (number : ℕ) → HasFault setup records number → ⊥
  pub lines : r.lines ≡ length records
  pub accepted : r.accepted ≡ length (logins_of setup records)
  pub already : r.already ≡ (not (is_none_left (logins_of setup records))
      && is_none_left (left_of setup (logins_of setup records)))
  pub ledger : HasAccepted setup (left_of setup (logins_of setup records)) r.ledger
  pub own : r.already ≡ true → IsOwn setup r.ledger

-- what recovery answers for these records: what they bring back, or their first fault; memory may run out
abbrev pub IsAnswerOf : Settings → List (List ℕ) → Result Recovered RecoverError → Type 0
IsAnswerOf setup records (Ok r) = IsRecovered setup records r
IsAnswerOf setup records (Err errors.NoLog) = ⊥
IsAnswerOf setup records (Err (errors.Line number)) = IsFirstFault setup records number
IsAnswerOf setup records (Err errors.OutOfMemory) = Unit {0}

-- an image has records
pub record HasSome (image : List ℕ) : Type 0 where
  pub records : List (List ℕ)
  pub has : HasRecords image records

-- an image has records, unless the answer is that it is no log or memory ran out
abbrev pub IsLogOr : List ℕ → Result Recovered RecoverError → Type 0
IsLogOr image (Ok r) = HasSome image
IsLogOr image (Err errors.NoLog) = HasSome image → ⊥
IsLogOr image (Err (errors.Line number)) = HasSome image
IsLogOr image (Err errors.OutOfMemory) = Unit {0}
