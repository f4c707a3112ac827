-- Believed: who a session is logged in as, and the files of its handles.
use Rattle.std.specs.Prelude.{ℕ, Option, option_map}
use Rattle.std.specs.Option.{option_and_then, option_map_or}
use Rattle.request_catalogue.specs.declared.texts.Label.{Label}
use Rattle.outside.specs.declared.act.Role.{Role}
use Rattle.outside.specs.declared.act.Role.TheVariants.{Pre, User}
use Rattle.policy_model.specs.declared.account.Account.{Account}
use Rattle.policy_model.specs.Asks.{label_named}
use Rattle.policy_model.specs.Handles.{handle_opening}
use Rattle.policy_model.specs.Journal.{Place}
use Rattle.policy_model.specs.Logins.{verified_account}
use Rattle.policy_model.specs.Settings.{Settings}

-- the account that an event's session is logged in as, just before the event
abbrev pub user_at : Settings → Place → Option Account
user_at setup place = verified_account setup place.before place.event.session

-- the child that serves a session: the user's once one is logged in, before that the one before the login
abbrev pub user_role : Settings → Place → Role
user_role setup place =
    option_map_or (λ account. User place.event.session account.uid account.name) (user_at setup place)
    (Pre place.event.session)

-- a user's file: the number of the user and the file's label
pub record File : Type 0 where
  pub uid : ℕ
  pub name : Label

-- the file that a handle was opened for: the logged-in user's, by the label that the OPEN gave
abbrev pub file_at : Settings → Place → ℕ → Option File
file_at setup place handle =
    let name = option_and_then (λ e. label_named e.ask) (handle_opening place.before place.event.session handle) in
    option_and_then (λ account. option_map (λ label. record { uid = account.uid; name = label }) name)
    (user_at setup place)
