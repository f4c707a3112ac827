-- Inner: whom a session is challenged for and logged in as, in every legal journal.
use Rattle.std.specs.Prelude.{ℕ, ◌≡◌, false, List, Some}
use Rattle.request_catalogue.specs.declared.texts.Name.{Name}
use Rattle.policy_model.specs.declared.account.Account.{Account}
use Rattle.policy_model.specs.declared.event.Event.{Event}
use Rattle.policy_model.specs.Logins.{account_of, challenged_user, verified_user, was_decoyed}
use Rattle.policy_model.specs.Settings.{Settings}

-- the user of an account that is there
pub record HasAccount (setup : Settings) (user : Name) : Type 0 where
  pub account : Account
  pub found : account_of setup user ≡ Some account

-- a session in Challenged was challenged for a user, and where that wasn't a decoy the user has an account
pub record IsChallenged (setup : Settings) (journal : List Event) (session : ℕ) : Type 0 where
  pub user : Name
  pub challenged : challenged_user journal session ≡ Some user
  pub known : was_decoyed journal session ≡ false → HasAccount setup user

-- a session whose reply was accepted is logged in as the user that it was
-- challenged for, by no decoy, and the user has an account
pub record IsLoggedIn (setup : Settings) (journal : List Event) (session : ℕ) : Type 0 where
  pub user : Name
  pub challenged : challenged_user journal session ≡ Some user
  pub verified : verified_user journal session ≡ Some user
  pub no_decoy : was_decoyed journal session ≡ false
  pub known : HasAccount setup user
