-- Believed: the files of a user who was welcomed.
use Rattle.std.specs.Prelude.{◌≡◌, ℕ, ◌+◌, ◌*◌, ◌≤◌, ◌<◌, Bool, true, false, Some, Ok, Err, codes, count_by}
use Rattle.std.specs.Prelude.{List, [], ◌∷◌, ◌++◌, length}
use Rattle.std.specs.Fmt.{decimal}
use Rattle.std.specs.List.{find, flat_map, list_all}
use Rattle.std.specs.Option.{option_map_or}
use Rattle.std.specs.Str.{bytes_eq}
use Rattle.request_catalogue.specs.declared.texts.Label.{Label}
use Rattle.request_catalogue.specs.declared.texts.Name.{Name}
use Rattle.request_catalogue.specs.TextBytes.{label_bytes, name_bytes}
use Rattle.outside.specs.declared.act.Act.{Act}
use Rattle.outside.specs.declared.act.Act.TheVariants as acts
use Rattle.policy_model.specs.declared.account.Account.{Account}
use Rattle.policy_model.specs.declared.event.Event.{Event}
use Rattle.policy_model.specs.declared.verdict.TheConstants.{READ, WRITE}
use Rattle.policy_model.specs.Asks.{accepts}
use Rattle.policy_model.specs.Verdict.{allows}
use Rattle.child_protocol.specs.Lines.{Line, behind_line, behind_lines, front_of, line_end}
use Rattle.child_protocol.specs.User.{Get, Put, UserCommand, user_command}
use Rattle.service_model.specs.Parts.{Part, requests_of}
use Rattle.service_model.specs.Places.{step_acts}
use Rattle.service_model.specs.Service.{Service}
use Rattle.service_model.specs.Sittings.{Sitting}
use Rattle.login_laws.specs.Login.{ComesAfter}
use Rattle.welcome_laws.specs.Client.{AgreesWith, is_receiving}
use Rattle.welcome_laws.specs.Welcome.{ComesToLogIn, first_acts, sitting_session, texts_told}

-- ---- the commands

-- the account may open a file of this name in this mode
abbrev pub has_grant : Account → ℕ → List ℕ → Bool
has_grant account mode name =
    option_map_or (λ g. allows g.mode mode) (find (λ g. bytes_eq (label_bytes g.name) name) account.grants) false

-- a `get` of a file that the account may read, or a `put` to one that it may write
abbrev pub is_granted : Account → UserCommand → Bool
is_granted account (Get name) = has_grant account READ name
is_granted account (Put name text) = has_grant account WRITE name
is_granted account _ = false

-- bytes begin with a whole line of this command to the user's child, with at most 300 bytes before its newline
pub record BeginsWithCommand (command : UserCommand) (bytes : List ℕ) : Type 0 where
  pub end : ℕ
  pub whole : line_end bytes ≡ Some end
  pub short : end ≤ 300
  pub text : List ℕ
  pub front : front_of bytes ≡ Line text
  pub is : user_command text ≡ command

-- bytes begin with whole lines of these commands, one after the other
abbrev pub BeginWithCommands : List UserCommand → List ℕ → Type 0
BeginWithCommands [] bytes = Unit {0}
BeginWithCommands (command ∷ commands) bytes =
    BeginsWithCommand command bytes × BeginWithCommands commands (behind_line bytes)

-- ---- what the outside does

-- what an operation received from the client; nothing for any other
abbrev pub bytes_received : Act → List ℕ
bytes_received (acts.ConnRecv max (Ok bytes)) = bytes
bytes_received _ = []

-- the client goes on with these lines until all are there, in pieces of any size; no operation on it or on files
-- fails or brings too much
abbrev pub GoesWell : List ℕ → List ℕ → List Act → Type 0
GoesWell lines before [] = Unit {0}
GoesWell lines before (acts.ConnRecv max (Ok bytes) ∷ done) =
    (length before < length lines → (1 ≤ length bytes) × (length bytes ≤ max) × AgreesWith lines (before ++ bytes))
    × GoesWell lines (before ++ bytes) done
GoesWell lines before (acts.ConnRecv max (Err failed) ∷ done) = ⊥
GoesWell lines before (acts.ConnSend bytes (Err failed) ∷ done) = ⊥
GoesWell lines before (acts.VaultRead uid name offset max (Ok bytes) ∷ done) =
    (length bytes ≤ max) × GoesWell lines before done
GoesWell lines before (acts.VaultRead uid name offset max (Err failed) ∷ done) = ⊥
GoesWell lines before (acts.VaultWrite uid name offset bytes (Err failed) ∷ done) = ⊥
GoesWell lines before (act ∷ done) = GoesWell lines before done

-- the operations done for the requests of a session's later children
abbrev pub later_acts : List Part → List Act
later_acts [] = []
later_acts (pre ∷ parts) = flat_map (λ part. step_acts (requests_of part)) parts

-- ---- the promise

-- a user who comes to log in asks for files: after the accepted response's line come these commands, the account has
-- the grants, and requests are enough
pub record AsksForFiles (service : Service) (journal : List Event) (user : Name) (account : Account)
    (response : List ℕ) (sitting : Sitting) (comes : ComesToLogIn service journal user account response sitting)
    (commands : List UserCommand) : Type 0 where
  pub said : (before : List Event) (e : Event) → ComesAfter journal before e → e.session ≡ sitting_session sitting
      → accepts e ≡ true
      → BeginWithCommands commands (behind_lines (texts_told before (sitting_session sitting)) comes.lines)
  pub granted : list_all (is_granted account) commands ≡ true
  pub well : GoesWell comes.lines (flat_map bytes_received (first_acts sitting.parts)) (later_acts sitting.parts)
  -- besides those of the login, four requests for each command and one for each receive
  pub few : count_by is_receiving (first_acts sitting.parts) + 2 * length comes.earlier + 8
      + (count_by is_receiving (later_acts sitting.parts) + 4 * length commands) ≤ service.setup.requests

-- what a client is sent of a file: its size, and its bytes
abbrev pub file_text : List ℕ → List ℕ
file_text bytes = codes "size " ++ decimal (length bytes) ++ codes "\n" ++ bytes

-- a command was done by these operations: the file of that name was read and its bytes were sent, or it was written
-- and the client told
abbrev pub IsDone : Account → UserCommand → List Act → Type 0
IsDone account (Get name) done =
    (label : Label) × (label_bytes label ≡ name) × (bytes : List ℕ) × (sent : Unit {0})
    × (done ≡ acts.VaultRead account.uid label 0 4000 (Ok bytes) ∷ acts.ConnSend (file_text bytes) (Ok sent) ∷ [])
IsDone account (Put name text) done =
    (label : Label) × (label_bytes label ≡ name) × (written : Unit {0}) × (sent : Unit {0})
    × (done ≡ acts.VaultWrite account.uid label 0 text (Ok written) ∷ acts.ConnSend (codes "done\n") (Ok sent) ∷ [])
IsDone account _ done = ⊥

-- each of these commands was done, one after the other, with nothing between but receives from the client
abbrev pub AreDone : Account → List UserCommand → List Act → Type 0
AreDone account [] done = Unit {0}
AreDone account (command ∷ commands) done =
    (received : List Act) × (own : List Act) × (later : List Act) × (done ≡ received ++ (own ++ later))
    × (list_all is_receiving received ≡ true) × IsDone account command own × AreDone account commands later

-- the user's child welcomed its client, and then did these commands
pub record AreServed (account : Account) (commands : List UserCommand) (sitting : Sitting) : Type 0 where
  pub sent : Unit {0}
  pub later : List Act
  pub welcomed : later_acts sitting.parts
      ≡ acts.ConnSend (codes "welcome " ++ name_bytes account.name ++ codes "\n") (Ok sent) ∷ later
  pub done : AreDone account commands later

-- whoever comes to log in and then asks for its files (`AsksForFiles`) is served (`AreServed`)
abbrev pub UsersAreServed : Service → List Event → List Sitting → Type 0
UsersAreServed service journal sittings =
    (earlier later : List Sitting) (sitting : Sitting) → sittings ≡ earlier ++ (sitting ∷ later)
    → (user : Name) (account : Account) (response : List ℕ)
    → (comes : ComesToLogIn service journal user account response sitting) → (commands : List UserCommand)
    → AsksForFiles service journal user account response sitting comes commands → AreServed account commands sitting
