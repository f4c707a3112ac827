-- Inner: whose child a permitted EXPORT starts.
use Rattle.std.specs.Prelude.{◌≡◌, ℕ, ◌<◌, length, slice_get, Option, Some, None}
use Rattle.outside.specs.declared.act.Role.{Role}
use Rattle.outside.specs.declared.act.Role.TheVariants.{Pre, User}
use Rattle.policy_model.specs.declared.account.Account.{Account}
use Rattle.policy_model.specs.declared.event.Event.{Event}
use Rattle.policy_model.specs.Asks.{value_of}
use Rattle.policy_model.specs.Settings.{Settings}
use Rattle.child_keeper.specs.declared.ticket.UserTicket.{UserTicket}

-- the permitted EXPORT that a ticket was made from
abbrev pub event_of : UserTicket → Event
event_of ticket = ticket.event

-- the setup has an account of the number that a permit gives
pub record NamesAccount (setup : Settings) (event : Event) : Type 0 where
  pub below : value_of event.decision < length setup.accounts

-- the account that a permitted EXPORT hands its session to: the one whose number the permit gives
abbrev pub handed_account : Settings → Event → Option Account
handed_account setup event = slice_get setup.accounts (value_of event.decision)

-- the role of a session's child: the user's of this account, and before the login as long as there is none
abbrev pub session_role : ℕ → Option Account → Role
session_role session None = Pre session
session_role session (Some account) = User session account.uid account.name

-- the role of the child that a permitted EXPORT starts
abbrev pub user_role : Settings → Event → Role
user_role setup event = session_role event.session (handed_account setup event)

-- a permitted EXPORT hands its session to this account of the setup
pub record HandsTo (setup : Settings) (account : Account) (event : Event) : Type 0 where
  pub named : NamesAccount setup event
  pub handed : handed_account setup event ≡ Some account
  pub role : user_role setup event ≡ User event.session account.uid account.name
