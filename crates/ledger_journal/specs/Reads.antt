-- Inner: what is kept of records while they are read.
use Rattle.std.specs.Prelude.{ℕ, ◌≡◌, ◌≤◌, ◌<◌, ◌^◌, ◌||◌, not, nat_lt, min, if◌then◌else◌, List, ◌++◌, All, codes}
use Rattle.std.specs.Prelude.{length, Option, Some, None, slice_index_or, Bool}
use Rattle.std.specs.BTreeMap.{BTreeMap, get}
use Rattle.std.specs.Ordering.{nat_cmp}
use Rattle.std.specs.List.{list_any, AllByRecursion}
use Rattle.policy_model.specs.declared.ranges.TheConstants.{EVENTS_LIMIT}
use Rattle.policy_model.specs.Settings.{Settings}
use Rattle.decision_log.specs.Values.{LineValue}
use Rattle.durable_log.specs.Records.{HasRecords, opened}
use Rattle.ledger_journal.specs.declared.answer.RecoverError.{RecoverError}
use Rattle.ledger_journal.specs.declared.answer.RecoverError.TheVariants as errors
use Rattle.ledger_journal.specs.declared.login.Login.{Login}
use Rattle.ledger_journal.specs.declared.reading.Log.{Log}
use Rattle.ledger_journal.specs.Images.{IsNoLog}
use Rattle.ledger_journal.specs.Lines.{lines_of}
use Rattle.ledger_journal.specs.Logins.{account_taken, is_stored, last_taking, logins_of, takes_for}
use Rattle.ledger_journal.specs.Recovering.{IsNoLine}

-- the account that a session took: none where nothing is kept of it
abbrev pub taken : Option (Option ℕ) → Option ℕ
taken None = None
taken (Some account) = account

-- the first place of a record that is no line, or none
abbrev pub IsFirstBad : List (List ℕ) → Option ℕ → Type 0
IsFirstBad records None = (length records ≤ EVENTS_LIMIT) × ((number : ℕ) → IsNoLine records number → ⊥)
IsFirstBad records (Some bad) = IsNoLine records bad × ((earlier : ℕ) → earlier < bad → IsNoLine records earlier → ⊥)

-- the first bad place of records after which this one stands
abbrev pub bad_after : Option ℕ → ℕ → Bool → Option ℕ
bad_after (Some bad) place is_line = Some bad
bad_after None place is_line = if nat_lt EVENTS_LIMIT place || not is_line then Some place else None

-- a line is taken note of: the account of its session is the one that it takes, where it is a permitted CHALLENGE
pub record IsTaken (setup : Settings) (v : LineValue) (old new : BTreeMap ℕ (Option ℕ)) : Type 0 where
  pub each : (session : ℕ) → taken (get nat_cmp new session) ≡ (if takes_for session v then account_taken setup (Some v)
      else taken (get nat_cmp old session))

-- a reply is of an account that the setup has, or of none
abbrev pub IsWithin : Settings → Login → Type 0
IsWithin setup login = (number : ℕ) → login.account ≡ Some number → number < length setup.accounts

-- what is kept of these records
pub record IsRead (setup : Settings) (records : List (List ℕ)) (log : Log) : Type 0 where
  pub counted : log.count ≡ length records
  pub first_bad : IsFirstBad records log.bad
  pub takings : (session : ℕ) → taken (get nat_cmp log.takings session) ≡ account_taken setup
      (last_taking (lines_of records) session)
  pub logins : log.logins.items ≡ logins_of setup records
  pub few : length log.logins.items ≤ length records
  pub within : AllByRecursion (IsWithin setup) log.logins.items

-- what was kept of an image's records up to a place
pub record IsReadTo (setup : Settings) (image rest : List ℕ) (log : Log) : Type 0 where
  pub records : List (List ℕ)
  pub image_is : image ≡ codes "OTJ1" ++ (opened records ++ rest)
  pub short : All (λ bytes. length bytes < 2 ^ 16) records
  pub read : IsRead setup records log

-- what is kept of all records of an image
pub record IsLogOf (setup : Settings) (image : List ℕ) (log : Log) : Type 0 where
  pub records : List (List ℕ)
  pub has : HasRecords image records
  pub read : IsRead setup records log

-- why reading an image failed
abbrev pub IsReadError : List ℕ → RecoverError → Type 0
IsReadError image errors.NoLog = IsNoLog image
IsReadError image (errors.Line number) = ⊥
IsReadError image errors.OutOfMemory = Unit {0}

-- it is known of each account whether one of these replies is its stored password
pub record AreSeen (setup : Settings) (logins : List Login) (seen : List Bool) : Type 0 where
  pub same : length seen ≡ length setup.accounts
  pub each : (number : ℕ) (d : Bool) → number < length setup.accounts → slice_index_or seen number d
      ≡ list_any (is_stored setup (Some number)) logins

-- some records were read
pub record HasBeenRead (setup : Settings) (log : Log) : Type 0 where
  pub records : List (List ℕ)
  pub read : IsRead setup records log

-- the lesser of two places, where there is one
abbrev pub first_of : Option ℕ → Option ℕ → Option ℕ
first_of None other = other
first_of (Some one) None = Some one
first_of (Some one) (Some other) = Some (min one other)
