-- Inner: the accounts of a setup by their numbers, and what a session holds of them.
use Rattle.std.specs.Prelude.{ℕ, ◌≡◌, ◌<◌, true, false, List, length, slice_get, Some}
use Rattle.request_catalogue.specs.declared.texts.Name.{Name}
use Rattle.policy_model.specs.declared.account.Account.{Account}
use Rattle.policy_model.specs.declared.event.Event.{Event}
use Rattle.policy_model.specs.Logins.{account_of, holder_of}
use Rattle.policy_model.specs.Settings.{Settings, account_number}
use Rattle.policy_model.specs.Cases.{is_holder}

-- an account of a name stands at a number
pub record IsNumbered (setup : Settings) (user : Name) (number : ℕ) (account : Account) : Type 0 where
  pub number_is : account_number setup user ≡ Some number
  pub found : account_of setup user ≡ Some account
  pub stands : slice_get setup.accounts number ≡ Some account
  pub below : number < length setup.accounts
  pub named : account.name ≡ user

-- a session holds none of the accounts but the one with this number
pub record HoldsOnly (setup : Settings) (journal : List Event) (session number : ℕ) : Type 0 where
  pub only : (n : ℕ) (account : Account) → slice_get setup.accounts n ≡ Some account
      → is_holder session (holder_of journal account.name) ≡ true → n ≡ number

-- a session holds nobody
pub record HoldsNone (journal : List Event) (session : ℕ) : Type 0 where
  pub none : (user : Name) → is_holder session (holder_of journal user) ≡ false
