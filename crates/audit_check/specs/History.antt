-- Inner: what is kept of a log beside its events, and what one more event makes of it.
use Rattle.std.specs.Prelude.{ℕ, ◌≡◌, ◌<◌, ◌≤◌, ◌+◌, ◌-◌, ◌&&◌, not, nat_eq, nat_lt, unwrap_or, Bool, List, [], ◌∷◌}
use Rattle.std.specs.Prelude.{◌++◌, ◌==◌, length, slice_get, slice_index_or, Option, Some, None, IfSome, if◌then◌else◌}
use Rattle.std.specs.List.{last_or, list_any}
use Rattle.std.specs.Option.{option_to_list}
use Rattle.otp_hash.specs.Hashing.{hash_of}
use Rattle.std.proofs.Common.{Vec, Global}
use Rattle.request_catalogue.specs.declared.rules.TheConstants.{HOLD_LOST, NO_READING, USER_HELD}
use Rattle.request_catalogue.specs.declared.texts.Name.{Name}
use Rattle.policy_model.specs.declared.account.Account.{Account}
use Rattle.policy_model.specs.declared.event.Decision.{Decision}
use Rattle.policy_model.specs.declared.event.Decision.TheVariants.{Permit, Deny}
use Rattle.policy_model.specs.declared.event.Event.{Event}
use Rattle.policy_model.specs.Asks.{moment_of, reserves, value_of}
use Rattle.policy_model.specs.Journal.{openings_of}
use Rattle.policy_model.specs.Logins.{current_sequence, holder_of, last_taking_of, replies_of, reply_for}
use Rattle.policy_model.specs.Logins.{session_taking}
use Rattle.policy_model.specs.Settings.{IsInRange, Settings}
use Rattle.policy_model.specs.Verdict.{decoy_challenge}
use Rattle.policy_model.specs.Cases.{is_holder, is_other, taking_moment}
use Rattle.session_laws.specs.Tied.{holder_after}
use Rattle.audit_check.specs.declared.accounts.Standing.{Standing}
use Rattle.audit_check.specs.declared.history.Hold.{Hold}
use Rattle.audit_check.specs.declared.history.History.{History}
use Rattle.audit_check.specs.Following.{IsRecent, recent_after}
use Rattle.audit_check.specs.Legal.{IsLegalLog}
use Rattle.audit_check.specs.Seats.{IsSeat}
use Rattle.audit_check.specs.declared.seats.Seat.{Seat}

-- what a log says of who took a user last and who holds it
abbrev pub hold_by : List Event → Name → Hold
hold_by events user =
    record {
      taker = session_taking (last_taking_of events user);
      moment = taking_moment (last_taking_of events user);
      holder = holder_of events user;
    }

-- what an event makes of the hold of a user
abbrev pub hold_after : Name → Event → Hold → Hold
hold_after user e hold =
    if reserves user e then record { taker = e.session; moment = moment_of e.ask; holder = Some e.session }
    else record { taker = hold.taker; moment = hold.moment; holder = holder_after hold.holder e }

-- the holds of all accounts after an event
pub record IsRenewed (accounts : List Account) (e : Event) (old new : List Hold) : Type 0 where
  pub same : length new ≡ length old
  pub each : (n : ℕ) (account : Account) (d : Hold) → slice_get accounts n ≡ Some account → slice_index_or new n d
      ≡ hold_after account.name e (slice_index_or old n d)

-- the same, of the accounts up to a number
pub record IsRenewedTo (accounts : List Account) (e : Event) (count : ℕ) (old new : List Hold) : Type 0 where
  pub same : length new ≡ length old
  pub each : (n : ℕ) (account : Account) (d : Hold) → n < count → slice_get accounts n ≡ Some account
      → slice_index_or new n d ≡ hold_after account.name e (slice_index_or old n d)
  pub rest : (n : ℕ) (d : Hold) → count ≤ n → slice_index_or new n d ≡ slice_index_or old n d

-- a password at the number of an account
abbrev pub reply_at : Option ℕ → ℕ → ℕ → Option ℕ
reply_at None password n = None
reply_at (Some number) password n = if n == number then Some password else None

-- the account of a number, where there is one, has one reply more
pub record AreReplied (number : Option ℕ) (password : ℕ) (old new : List (Vec ℕ Global)) : Type 0 where
  pub same : length new ≡ length old
  pub each : (n : ℕ) (d : Vec ℕ Global) → (slice_index_or new n d).items ≡ (slice_index_or old n d).items
      ++ option_to_list (reply_at number password n)

-- the list of an event's worker goes on, and any other stays
pub record AreFollowed (e : Event) (old new : List (Vec Event Global)) : Type 0 where
  pub same : length new ≡ length old
  pub each : (n : ℕ) (d : Vec Event Global) → n < length old → (slice_index_or new n d).items ≡ recent_after n e
      (slice_index_or old n d).items

-- what is kept of a legal log: how many events it has and how many sessions were opened, for each worker what its open
-- session has come to and the events of it, and for each account its hold and the passwords of its replies
pub record IsKept (setup : Settings) (events : List Event) (h : History) : Type 0 where
  pub in_range : IsInRange setup
  pub legal : IsLegalLog setup events
  pub counted : h.count ≡ length events
  pub followed : length h.recent.items ≡ setup.workers
  pub recents : (n : ℕ) (d : Vec Event Global) → n < length h.recent.items
      → IsRecent (slice_index_or h.recent.items n d).items n events
  pub seated : length h.seats.items ≡ setup.workers
  pub seats : (n : ℕ) (d : Seat) → n < length h.seats.items → IsSeat (slice_index_or h.seats.items n d) n events
  pub opened : h.opened ≡ openings_of events
  pub held : length h.holds.items ≡ length setup.accounts
  pub holds : (n : ℕ) (account : Account) (d : Hold) → slice_get setup.accounts n ≡ Some account
      → slice_index_or h.holds.items n d ≡ hold_by events account.name
  pub replied : length h.replies.items ≡ length setup.accounts
  pub replies : (n : ℕ) (account : Account) (d : Vec ℕ Global) → slice_get setup.accounts n ≡ Some account
      → (slice_index_or h.replies.items n d).items ≡ replies_of events account.name

-- there is such a log
pub record HasLog (setup : Settings) (h : History) : Type 0 where
  pub events : List Event
  pub kept : IsKept setup events h

-- a hold before the first event
abbrev pub first_hold : Account → Hold
first_hold account = record { taker = 0; moment = 0; holder = None }

-- no account has a reply
abbrev pub AreEmpty : List (Vec ℕ Global) → Type 0
AreEmpty replies = (n : ℕ) (d : Vec ℕ Global) → n < length replies → (slice_index_or replies n d).items ≡ []

-- no worker has an event
abbrev pub AreIdle : List (Vec Event Global) → Type 0
AreIdle recent = (n : ℕ) (d : Vec Event Global) → n < length recent → (slice_index_or recent n d).items ≡ []

-- an event is a permitted reply for the user of the account with this number, or for nobody's
pub record IsReplyFor (setup : Settings) (events : List Event) (e : Event) (number : Option ℕ) : Type 0 where
  pub within : IfSome number (λ n. n < length setup.accounts)
  pub each : (n : ℕ) (account : Account) → slice_get setup.accounts n ≡ Some account
      → reply_for account.name (record { before = events; event = e }) ≡ reply_at number (value_of e.decision) n

-- what a log says of an account
abbrev pub standing_by : List Event → Account → Standing
standing_by events account =
    record { enabled = account.enabled; sequence = current_sequence events account; hold = hold_by events account.name }

-- a CHALLENGE of a session for the user of an account at a moment
abbrev pub challenge_by : Settings → Name → ℕ → ℕ → Standing → Decision
challenge_by setup user session now standing =
    if not (standing.enabled && not (standing.sequence == 0)) then decoy_challenge setup user
    else (if is_other session standing.hold.holder && nat_lt now (standing.hold.moment + setup.hold)
    then Deny USER_HELD standing.hold.taker
    else Permit (standing.sequence - 1))

-- a REPLY without readings of a session for a user with this hold
abbrev pub silent_by : ℕ → Hold → Decision
silent_by session hold = if is_holder session hold.holder then Deny NO_READING 0 else Deny HOLD_LOST hold.taker

-- a password is the next one of an account with these replies
abbrev pub is_next_by : Account → List ℕ → ℕ → Bool
is_next_by account replies password =
    hash_of account.algo password == unwrap_or (last_or None replies) account.password
    && not (list_any (nat_eq password) (account.password ∷ replies))
