-- Believed: when a user has to be welcomed, and what a welcome is.
use Rattle.std.specs.Prelude.{◌≡◌, ℕ, zero, ◌+◌, ◌*◌, ◌≤◌, Bool, true, false, Option, Some, Result}
use Rattle.std.specs.Prelude.{List, [], ◌∷◌, ◌++◌, codes, count_by, length}
use Rattle.std.specs.List.{AllByRecursion, list_any}
use Rattle.request_catalogue.specs.declared.texts.Name.{Name}
use Rattle.request_catalogue.specs.TextBytes.{name_bytes}
use Rattle.otp_words.specs.Candidates.{AreCandidatesOf}
use Rattle.outside.specs.declared.act.Act.{Act}
use Rattle.outside.specs.declared.act.Act.TheVariants as acts
use Rattle.outside.specs.declared.act.Failed.{Failed}
use Rattle.outside.specs.declared.act.Role.TheVariants as launched
use Rattle.policy_model.specs.declared.account.Account.{Account}
use Rattle.policy_model.specs.declared.event.Ask.{Ask}
use Rattle.policy_model.specs.declared.event.Ask.TheVariants as asks
use Rattle.policy_model.specs.declared.event.Event.{Event}
use Rattle.policy_model.specs.Asks.{accepts, exports, is_permit, moment_of}
use Rattle.policy_model.specs.Journal.{count_of}
use Rattle.policy_model.specs.Logins.{account_of, challenged_user}
use Rattle.policy_model.specs.Settings.{Settings}
use Rattle.child_protocol.specs.Commands.{PreCommand, Respond, User}
use Rattle.service_model.specs.Parts.{Part, requests_of}
use Rattle.service_model.specs.Places.{Step, step_acts}
use Rattle.service_model.specs.Service.{Service}
use Rattle.service_model.specs.Sittings.{Sitting}
use Rattle.login_laws.specs.Login.{CanLogIn, ComesAfter, ComesWithinHold, IsRight, asks_for}
use Rattle.welcome_laws.specs.Client.{AreEarlier, BeginWith, ClientSays, is_receiving, is_response}
use Rattle.welcome_laws.specs.Shipped.{IsShipped}

-- the number of a session
abbrev pub sitting_session : Sitting → ℕ
sitting_session sitting = sitting.opening.place.event.session

-- the operations done for the requests of a session's first child
abbrev pub first_acts : List Part → List Act
first_acts [] = []
first_acts (pre ∷ parts) = step_acts (requests_of pre)

-- an ask is a WRITE to the client, handle 0
abbrev pub tells_client : Ask → Bool
tells_client (asks.WriteAt zero offset len) = true
tells_client _ = false

-- how many times a session asked to write to its client, whatever was decided
abbrev pub texts_told : List Event → ℕ → ℕ
texts_told before session = count_of before session (λ e. tells_client e.ask)

-- an event of the journal is the session's CHALLENGE for the user, made after so many texts to its client
pub record AsksAfter (journal : List Event) (session : ℕ) (user : Name) (texts : ℕ) (before : List Event) (e : Event)
    : Type 0 where
  pub comes : ComesAfter journal before e
  pub own : e.session ≡ session
  pub asks : asks_for user e.ask ≡ true
  pub told : texts_told before session ≡ texts

-- the user has this account, and every accepted REPLY of the session is for this user
pub record AcceptsNobodyElse (setup : Settings) (journal : List Event) (session : ℕ) (user : Name) (account : Account)
    : Type 0 where
  pub found : account_of setup user ≡ Some account
  pub only : (before : List Event) (e : Event) → ComesAfter journal before e → e.session ≡ session → accepts e ≡ true
      → challenged_user before session ≡ Some user

-- when a welcome is certain: the shipped children, a client that says a login's lines, enough requests, the right
-- response, and a user who can log in
pub record ComesToLogIn (service : Service) (journal : List Event) (user : Name) (account : Account)
    (response : List ℕ) (sitting : Sitting) : Type 0 where
  -- lines that the client says before those of this login
  pub earlier : List PreCommand
  pub lines : List ℕ
  pub are_earlier : AreEarlier service.setup.tries earlier
  pub are_lines : BeginWith (earlier ++ (User (name_bytes user) ∷ Respond response ∷ [])) lines
  pub children : AllByRecursion IsShipped sitting.parts
  pub client : ClientSays lines [] (first_acts sitting.parts)
  -- eight requests remain besides two for each earlier line and one for each receive
  pub few : count_by is_receiving (first_acts sitting.parts) + 2 * length earlier + 8 ≤ service.setup.requests
  -- no earlier response logs in another user
  pub only : list_any is_response earlier ≡ true
      → AcceptsNobodyElse service.setup journal (sitting_session sitting) user account
  -- when the session asks for the user, after the greeting and a text for each earlier line, the user can log in
  pub ready : (before : List Event) (e : Event)
      → AsksAfter journal (sitting_session sitting) user (1 + length earlier) before e
      → CanLogIn service.setup before (sitting_session sitting) user (moment_of e.ask) account
  -- and the response is the account's next password
  pub right : (before : List Event) (e : Event)
      → AsksAfter journal (sitting_session sitting) user (1 + length earlier) before e → (words hex : Option ℕ)
      → AreCandidatesOf service.words response words hex → IsRight before account words hex
  -- from then on another session's CHALLENGE for the user comes within the hold
  pub within : (before : List Event) (e : Event) → ComesAfter journal before e
      → 1 + length earlier ≤ texts_told before (sitting_session sitting)
      → ComesWithinHold service.setup before (sitting_session sitting) user e

-- a REPLY was accepted, the first child exported, the user's child was served, and its second request sent the client
-- `welcome NAME`
pub record IsWelcomed (journal : List Event) (user : Name) (account : Account) (sitting : Sitting) : Type 0 where
  pub before : List Event
  pub reply : Event
  pub replied : ComesAfter journal before reply
  pub own : reply.session ≡ sitting_session sitting
  pub accepted : accepts reply ≡ true
  pub pre : Part
  pub child : Part
  pub parts : sitting.parts ≡ pre ∷ child ∷ []
  pub export : Step
  pub final : pre.final ≡ Some export
  pub exported : exports export.place.event ≡ true
  pub role : child.role ≡ launched.User (sitting_session sitting) account.uid account.name
  pub named : account.name ≡ user
  pub import : Step
  pub welcome : Step
  pub later : List Step
  pub served : child.served ≡ import ∷ welcome ∷ later
  pub permitted : is_permit welcome.place.event.decision ≡ true
  pub outcome : Result (Unit {0}) Failed
  pub told : welcome.acts ≡ acts.ConnSend (codes "welcome " ++ name_bytes user ++ codes "\n") outcome ∷ []

-- every session that comes to log in (`ComesToLogIn`) is welcomed (`IsWelcomed`)
abbrev pub UsersGetIn : Service → List Event → List Sitting → Type 0
UsersGetIn service journal sittings =
    (earlier later : List Sitting) (sitting : Sitting) → sittings ≡ earlier ++ (sitting ∷ later)
    → (user : Name) (account : Account) (response : List ℕ)
    → ComesToLogIn service journal user account response sitting → IsWelcomed journal user account sitting
