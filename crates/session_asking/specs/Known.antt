-- Inner: what is known of a session while its child is served.
use Rattle.std.specs.Prelude.{◌≡◌, ℕ, ◌+◌, ◌≤◌, ◌<◌, ◌==◌, ◌&&◌, true, List, Option, Some, None, is_some, slice_get}
use Rattle.std.specs.Prelude.{if◌then◌else◌}
use Rattle.service_model.specs.Users.{File}
use Rattle.service_model.specs.Cases.{file_of, name_of_opening}
use Rattle.request_catalogue.specs.declared.texts.Label.{Label}
use Rattle.policy_model.specs.declared.account.Account.{Account}
use Rattle.policy_model.specs.declared.event.Event.{Event}
use Rattle.policy_model.specs.Asks.{closes_file, exports, opens_file, label_named}
use Rattle.policy_model.specs.Handles.{handle_opening}
use Rattle.policy_model.specs.Journal.{ask_count, has_event, open_session_of}
use Rattle.policy_model.specs.Logins.{verified_user}
use Rattle.policy_model.specs.Runs.{IsRun, IsServing}
use Rattle.policy_model.specs.Settings.{Settings}
use Rattle.policy_model.specs.Cases.{account_named, handle_of}
use Rattle.session_turns.specs.Joins.{Rights}
use Rattle.session_asking.specs.declared.live.LoggedIn.{LoggedIn}
use Rattle.session_asking.specs.declared.live.UserFile.{UserFile}
use Rattle.session_asking.specs.Files.{name_in}

-- a file as the definitions have it
abbrev pub file_value : UserFile → File
file_value file = record { uid = file.uid; name = file.name }

-- the account of the user, where one is logged in
abbrev pub account_in : Settings → Option LoggedIn → Option Account
account_in setup None = None
account_in setup (Some user) = slice_get setup.accounts user.account

-- the name of the file that a handle is of
abbrev pub names_in : Option LoggedIn → ℕ → Option Label
names_in None handle = None
names_in (Some user) handle = name_in user.files.names handle

abbrev pub file_in : Settings → Option LoggedIn → ℕ → Option File
file_in setup user handle = file_of (account_in setup user) (names_in user handle)

-- the name at a handle after an event: the one that it opens, none where it closes the handle, and else the one before
abbrev pub name_after : Event → Option Label → ℕ → Option Label
name_after e before handle =
    if opens_file e && handle_of e == handle then label_named e.ask else (if closes_file handle e then None else before)

-- an event of a user's session was noted
pub record NotesFiles (e : Event) (old new : Option LoggedIn) : Type 0 where
  pub some : is_some new ≡ is_some old
  pub account : (setup : Settings) → account_in setup new ≡ account_in setup old
  pub names : is_some old ≡ true → (handle : ℕ) → names_in new handle ≡ name_after e (names_in old handle) handle

-- what is known of a session is what the journal says: whether it exported, then its user's account, and its open files
pub record Knows (setup : Settings) (journal : List Event) (session : ℕ) (user : Option LoggedIn) : Type 0 where
  pub exported : has_event journal session exports ≡ is_some user
  pub account : is_some user ≡ true → account_named setup (verified_user journal session) ≡ account_in setup user
  pub files : (handle : ℕ) → name_of_opening (handle_opening journal session handle) ≡ names_in user handle

-- a session is served: it is open, what is known of it is so, and its
-- worker has asks left for all that it may still ask and its end
pub record IsServed (setup : Settings) (rights : Rights) (seen : List Event) (session : ℕ)
    (user : Option LoggedIn) : Type 0 where
  pub serving : IsServing setup seen rights.worker session
  pub known : Knows setup seen session user
  pub left : setup.requests + 2 ≤ rights.left + ask_count seen session

-- a session is still open, and its end may be asked for
pub record IsStillOpen (setup : Settings) (rights : Rights) (seen : List Event) (session : ℕ) : Type 0 where
  pub run : IsRun setup seen
  pub opened : open_session_of seen rights.worker ≡ session
  pub left : 0 < rights.left
