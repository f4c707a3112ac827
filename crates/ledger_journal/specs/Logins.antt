-- Believed: the accepted replies of a log, which of them the setup has already, and which verify.
use Rattle.std.specs.Prelude.{ℕ, ◌≡◌, ◌<◌, ◌-◌, ◌&&◌, ◌==◌, Bool, true, false, List, [], ◌∷◌, ◌++◌, filter, length, map}
use Rattle.std.specs.Prelude.{nat_lt, position, slice_get, Option, Some, None, if◌then◌else◌}
use Rattle.std.specs.List.{last_or, list_any}
use Rattle.std.specs.Option.{option_to_list}
use Rattle.std.specs.Str.{bytes_eq}
use Rattle.request_catalogue.specs.TextBytes.{name_bytes}
use Rattle.policy_model.specs.declared.account.Account.{Account}
use Rattle.policy_model.specs.declared.reading.TheConstants.{DECOYS_FROM}
use Rattle.policy_model.specs.Asks.{is_permit, value_of}
use Rattle.policy_model.specs.Settings.{Settings}
use Rattle.decision_log.specs.Values.{AskValue, Challenge, LineValue, Reply}
use Rattle.otp_ledger.specs.Accounts.{AccountState, IsNextPassword}
use Rattle.ledger_journal.specs.declared.login.Login.{Login}
use Rattle.ledger_journal.specs.Lines.{lines_of}

-- a line's ask is a CHALLENGE
abbrev pub is_challenge : AskValue → Bool
is_challenge (Challenge user now) = true
is_challenge _ = false

-- a line's ask is a REPLY
abbrev pub is_reply : AskValue → Bool
is_reply Reply = true
is_reply _ = false

-- a line of a permitted CHALLENGE of this session
abbrev pub takes_for : ℕ → LineValue → Bool
takes_for session v = v.session == session && (is_challenge v.ask && is_permit v.decision)

-- a line of a permitted REPLY
abbrev pub accepts_reply : LineValue → Bool
accepts_reply v = is_reply v.ask && is_permit v.decision

-- a session's last permitted CHALLENGE
abbrev pub last_taking : List LineValue → ℕ → Option LineValue
last_taking lines session = last_or None (filter (takes_for session) lines)

-- the number of the account of the user that a CHALLENGE names
abbrev pub account_named : Settings → AskValue → Option ℕ
account_named setup (Challenge user now) = position (λ a. bytes_eq (name_bytes a.name) user) setup.accounts
account_named setup _ = None

-- the number of the account that a permitted CHALLENGE takes; none for a decoy
abbrev pub account_taken : Settings → Option LineValue → Option ℕ
account_taken setup None = None
account_taken setup (Some v) = if nat_lt (value_of v.decision) DECOYS_FROM then account_named setup v.ask else None

-- the reply that a line accepts, if it does, for the account that its session took last
abbrev pub login_by : Option ℕ → LineValue → Option Login
login_by account v =
    if accepts_reply v then Some (record { line = v.number; account = account; password = value_of v.decision })
    else None

-- the reply that a line accepts, if it does, after these lines
abbrev pub login_in : Settings → List LineValue → LineValue → Option Login
login_in setup before v = login_by (account_taken setup (last_taking before v.session)) v

-- the accepted replies of these lines, after earlier ones
abbrev pub logins_after : Settings → List LineValue → List LineValue → List Login
logins_after setup before [] = []
logins_after setup before (v ∷ lines) =
    option_to_list (login_in setup before v) ++ logins_after setup (before ++ v ∷ []) lines

-- the accepted replies that the records of a log show
abbrev pub logins_of : Settings → List (List ℕ) → List Login
logins_of setup records = logins_after setup [] (lines_of records)

-- an account is known, and has this number
abbrev pub is_number : ℕ → Option ℕ → Bool
is_number number None = false
is_number number (Some n) = n == number

-- a reply is of the account with this number
abbrev pub is_of : ℕ → Login → Bool
is_of number login = is_number number login.account

-- the account's stored password is this
abbrev pub has_stored : Option Account → ℕ → Bool
has_stored None password = false
has_stored (Some account) password = account.password == password

-- a reply is of this account, and its password is the one stored
abbrev pub is_stored : Settings → Option ℕ → Login → Bool
is_stored setup None login = false
is_stored setup (Some number) login = is_of number login && has_stored (slice_get setup.accounts number) login.password

-- the setup has a reply already: it, or a later one of its account, is the account's stored password
abbrev pub is_passed : Settings → Login → List Login → Bool
is_passed setup login later = list_any (is_stored setup login.account) (login ∷ later)

-- the replies that the setup doesn't have yet
abbrev pub left_of : Settings → List Login → List Login
left_of setup [] = []
left_of setup (login ∷ later) = if is_passed setup login later then left_of setup later else login ∷ left_of setup later

-- the passwords that these replies spend of the account with this number
abbrev pub passwords_of : ℕ → List Login → List ℕ
passwords_of number logins = map (λ l. l.password) (filter (is_of number) logins)

-- what is known of an account once these replies are accepted, taken and held by nobody
abbrev pub state_after : List Login → ℕ → Account → AccountState
state_after logins number account = record {
  algo = account.algo;
  enabled = account.enabled;
  accepted = account.password ∷ passwords_of number logins;
  sequence = account.sequence - length (passwords_of number logins);
  taker = 0;
  moment = 0;
  holder = None;
}

-- after these replies this one is right: its account has a password left, and this is the next one
pub record Verifies (setup : Settings) (before : List Login) (login : Login) : Type 0 where
  pub number : ℕ
  pub account : Account
  pub named : login.account ≡ Some number
  pub stands : slice_get setup.accounts number ≡ Some account
  pub some : 0 < (state_after before number account).sequence
  pub next : IsNextPassword (state_after before number account) login.password
