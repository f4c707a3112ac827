-- Inner: what spending replies makes of a ledger.
use Rattle.std.specs.Prelude.{ℕ, ◌≡◌, ◌<◌, ◌+◌, Bool, true, false, List, [], ◌∷◌, ◌++◌, length, take, slice_get}
use Rattle.std.specs.Prelude.{slice_index_or, Option, Some, None}
use Rattle.policy_model.specs.declared.account.Account.{Account}
use Rattle.policy_model.specs.Settings.{Settings}
use Rattle.otp_ledger.specs.Accounts.{LedgerParts, state_at}
use Rattle.ledger_journal.specs.declared.login.Login.{Login}
use Rattle.ledger_journal.specs.Logins.{Verifies}
use Rattle.ledger_journal.specs.Recovering.{HasAccepted, IsRefused}

-- a ledger has the accounts of its setup
pub record IsOfSetup (l : LedgerParts) : Type 0 where
  pub same : length l.accounts ≡ length l.setup.accounts
  pub algos : (number : ℕ) (account : Account) → slice_get l.setup.accounts number ≡ Some account
      → (state_at l number).algo ≡ account.algo

-- a reply verifies after those that a ledger has accepted, and the ledger has accepted it too
pub record IsSpent (login : Login) (old new : LedgerParts) : Type 0 where
  pub spent : new.spent ≡ old.spent + 1
  pub cap : new.cap ≡ old.cap
  pub made : new.setup ≡ old.setup
  pub verified : (before : List Login) → HasAccepted old.setup before old → Verifies old.setup before login
  pub accepted : (before : List Login) → HasAccepted old.setup before old
      → HasAccepted old.setup (before ++ login ∷ []) new

abbrev pub IsSpending : Login → LedgerParts → LedgerParts → Bool → Type 0
IsSpending login old new true = IsSpent login old new
IsSpending login old new false =
    (before : List Login) → HasAccepted old.setup before old → Verifies old.setup before login → ⊥

-- each of the first replies verifies after those before it
abbrev pub VerifyTo : Settings → List Login → ℕ → Type 0
VerifyTo setup logins count =
    (place : ℕ) (d : Login) → place < count → Verifies setup (take place logins) (slice_index_or logins place d)

-- the first reply that doesn't verify is of this line
pub record StopsAt (setup : Settings) (logins : List Login) (number : ℕ) : Type 0 where
  pub place : ℕ
  pub within : place < length logins
  pub verified : VerifyTo setup logins place
  pub counted : (d : Login) → number ≡ (slice_index_or logins place d).line

-- all replies verify and are accepted, or the first that doesn't is of this line
pub record AreAccepted (setup : Settings) (logins : List Login) (new : LedgerParts) : Type 0 where
  pub accepted : HasAccepted setup logins new
  pub verified : VerifyTo setup logins (length logins)

abbrev pub AreSpent : Settings → List Login → LedgerParts → Option ℕ → Type 0
AreSpent setup logins new None = AreAccepted setup logins new
AreSpent setup logins new (Some number) = StopsAt setup logins number × IsRefused setup logins number
