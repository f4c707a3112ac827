-- Inner: the premises of both laws, as they are decided of a journal and of what a post tells.
use Rattle.std.specs.Prelude.{◌≡◌, ◌≢◌, ℕ, ◌+◌, ◌*◌, ◌≤◌, ◌==◌, ◌&&◌, ◌||◌, not, Bool, true, false, Some, Ok, Err}
use Rattle.std.specs.Prelude.{List, [], ◌∷◌, ◌++◌, codes, count_by, length, nat_le}
use Rattle.std.specs.List.{AllByRecursion, list_all, list_any}
use Rattle.request_catalogue.specs.declared.texts.Name.{Name}
use Rattle.request_catalogue.specs.TextBytes.{name_bytes}
use Rattle.request_catalogue.specs.Texts.{is_typed_reply}
use Rattle.otp_hash.specs.Hashing.{hash_of}
use Rattle.otp_words.specs.Hex.{hex_reading}
use Rattle.outside.specs.declared.act.Act.{Act}
use Rattle.outside.specs.declared.act.Act.TheVariants as acts
use Rattle.outside.specs.declared.act.Talk.{Talk}
use Rattle.outside.specs.Scene.{bytes_for, came_count}
use Rattle.policy_model.specs.declared.account.Account.{Account}
use Rattle.policy_model.specs.declared.event.Ask.{Ask}
use Rattle.policy_model.specs.declared.event.Ask.TheVariants as asks
use Rattle.policy_model.specs.declared.event.Event.{Event}
use Rattle.policy_model.specs.Asks.{accepts}
use Rattle.policy_model.specs.Journal.{has_lost}
use Rattle.policy_model.specs.Logins.{account_of}
use Rattle.policy_model.specs.Settings.{Settings, same_name}
use Rattle.child_protocol.specs.Commands.{PreCommand, Respond, Terminal, User}
use Rattle.child_protocol.specs.User.{Get, Put, UserCommand}
use Rattle.service_model.specs.Ends.{is_fault_end}
use Rattle.login_laws.specs.Login.{ComesAfter, asks_for}
use Rattle.welcome_laws.specs.Client.{ClientSays, is_receiving}
use Rattle.welcome_laws.specs.Files.{is_granted}
use Rattle.welcome_laws.specs.Shipped.{IsSaidWhole, role_session, shipped_role}
use Rattle.welcome_laws.specs.Welcome.{texts_told}
use Rattle.welcome_rows.specs.declared.serving.Visit.{Visit}

-- what a child has to send, of what the two of a connection have, is what the shipped one says to what it was sent
abbrev pub IsShippedTalk : List ℕ × List ℕ → Talk → Type 0
IsShippedTalk entry talk =
    IsSaidWhole (shipped_role talk.role) (role_session talk.role) talk.sent (bytes_for talk.role entry)

-- what a client asks for once it is welcomed, if it wants files: to write one, and then to read it
abbrev pub wishes_of : Bool → List UserCommand
wishes_of false = []
wishes_of true = Put (codes "notes") (codes "hello") ∷ Get (codes "notes") ∷ []

-- an account is enabled with a password left, a visit's response spells the next one in 16 digits, and what its client
-- asks for is granted
pub record IsReady (account : Account) (visit : Visit) : Type 0 where
  pub enabled : account.enabled ≡ true
  pub left : (account.sequence == 0) ≡ false
  pub password : ℕ
  pub spelled : hex_reading visit.response ≡ Some password
  pub fresh : (password == account.password) ≡ false
  pub next : (hash_of account.algo password == account.password) ≡ true
  pub granted : list_all (is_granted account) (wishes_of visit.wants_files) ≡ true

-- the account of a visit's user is so
pub record CanBeReady (setup : Settings) (visit : Visit) : Type 0 where
  pub account : Account
  pub found : account_of setup visit.user ≡ Some account
  pub ready : IsReady account visit

-- an event of another session that asks for the user, or an accepted REPLY of this one
abbrev pub stands_in_way : Name → ℕ → Event → Bool
stands_in_way user session e =
    (asks_for user e.ask && not (e.session == session)) || (accepts e && e.session == session)

-- before each event that asks for the user there is none that stands in the way of its session
abbrev pub IsAskedAlone : List Event → Name → Type 0
IsAskedAlone journal user =
    (before : List Event) (e : Event) → ComesAfter journal before e → asks_for user e.ask ≡ true
    → list_any (stands_in_way user e.session) before ≡ false

-- an ask is a CHALLENGE for another user
abbrev pub asks_for_other : Name → Ask → Bool
asks_for_other user (asks.Challenge name now) = not (same_name name user)
asks_for_other user _ = false

-- what a client says before it logs in: nothing; or a terminal, and the user's name and a mistyped response
abbrev pub earlier_of : List ℕ → List ℕ → List PreCommand
earlier_of name [] = []
earlier_of name (c ∷ cs) = Terminal (codes "vt220") ∷ User name ∷ Respond (c ∷ cs) ∷ []

-- how many lines a client says up to its response, with that
abbrev pub line_count : List ℕ → ℕ
line_count [] = 2
line_count (c ∷ cs) = 5

-- each accepted REPLY comes after so many texts to its client
abbrev pub AcceptsAfter : List Event → ℕ → Type 0
AcceptsAfter journal texts =
    (before : List Event) (e : Event) → ComesAfter journal before e → accepts e ≡ true
    → texts_told before e.session ≡ texts

-- the bytes of the lines `user NAME` and `resp R`, of all lines of a login, of those after it, and of all together
abbrev pub pair_bytes : List ℕ → List ℕ → List ℕ
pair_bytes name response = (((codes "user " ++ name) ++ codes "\nresp ") ++ response) ++ codes "\n"

abbrev pub login_bytes : List ℕ → List ℕ → List ℕ → List ℕ
login_bytes name [] response = pair_bytes name response
login_bytes name (c ∷ cs) response = (codes "term vt220\n" ++ pair_bytes name (c ∷ cs)) ++ pair_bytes name response

abbrev pub wish_bytes : Bool → List ℕ
wish_bytes false = []
wish_bytes true = codes "put notes hello\nget notes\n"

abbrev pub visit_bytes : Visit → List ℕ
visit_bytes visit =
    login_bytes (name_bytes visit.user) visit.mistyped visit.response ++ wish_bytes visit.wants_files

-- an operation on a file didn't fail or bring more than was asked for; any other operation
abbrev pub goes_well : Act → Bool
goes_well (acts.VaultRead uid name offset max (Ok bytes)) = nat_le (length bytes) max
goes_well (acts.VaultRead uid name offset max (Err failed)) = false
goes_well (acts.VaultWrite uid name offset bytes (Err failed)) = false
goes_well _ = true

-- what is decided of the journal
pub record IsMetInJournal (setup : Settings) (journal : List Event) (visit : Visit) : Type 0 where
  pub kept : has_lost journal ≡ false
  pub unfaulted : list_any (λ e. is_fault_end e.ask) journal ≡ false
  pub alone : IsAskedAlone journal visit.user
  pub only : visit.mistyped ≢ [] → list_any (λ e. asks_for_other visit.user e.ask) journal ≡ false
  pub told : visit.wants_files ≡ true → AcceptsAfter journal (line_count visit.mistyped)
  pub ready : CanBeReady setup visit

-- what is decided of the acts of a post, and of what passed with its children
pub record IsMetInActs (setup : Settings) (visit : Visit) (acts : List Act) (talks : List Talk) : Type 0 where
  pub typed : is_typed_reply visit.response ≡ true
  pub typed_too : visit.mistyped ≢ [] → is_typed_reply visit.mistyped ≡ true
  pub tries : visit.mistyped ≢ [] → 2 ≤ setup.tries
  pub one : came_count acts ≡ 1
  pub client : ClientSays (visit_bytes visit) [] acts
  pub files : list_all goes_well acts ≡ true
  pub few : count_by is_receiving acts + 2 * length (earlier_of (name_bytes visit.user) visit.mistyped) + 8
      + 4 * length (wishes_of visit.wants_files) ≤ setup.requests
  pub shipped : AllByRecursion (IsShippedTalk (visit.script.pre, visit.script.user)) talks
