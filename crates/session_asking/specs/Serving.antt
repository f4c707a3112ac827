-- Inner: what serving one message did.
use Rattle.std.specs.Prelude.{◌≡◌, ◌≢◌, true, false, ℕ, ◌+◌, ◌<◌, ◌≤◌, List, [], ◌∷◌, ◌++◌, Option, Some, None, is_some}
use Rattle.imsg_frame.specs.Message.{IsMessage, Message}
use Rattle.outside.specs.declared.act.Role.{Role}
use Rattle.outside.specs.declared.faults.Faults.{Faults}
use Rattle.outside.specs.Faults.{NoneFell}
use Rattle.outside.specs.Link.{Exchanged, IsUnasked, Link}
use Rattle.outside.specs.Scene.{Played, Scene}
use Rattle.outside.specs.Told.{Goes}
use Rattle.policy_model.specs.declared.event.Event.{Event}
use Rattle.policy_model.specs.declared.event.Why.TheVariants.{LinkFault}
use Rattle.policy_model.specs.Asks.{exports, value_of}
use Rattle.policy_model.specs.Cases.{is_proper_why}
use Rattle.policy_model.specs.Journal.{ask_count}
use Rattle.policy_model.specs.Settings.{Settings}
use Rattle.request_catalogue.specs.Widths.{frame_max}
use Rattle.service_model.specs.Answers.{answer_to}
use Rattle.service_model.specs.Parts.{EndsSession, EndsSo, GoesOn, IsRequestStep, LastSent}
use Rattle.service_model.specs.Places.{Step, step_places, worker_places}
use Rattle.service_model.specs.Requests.{CameBy}
use Rattle.service_model.specs.Service.{Service}
use Rattle.service_model.specs.Users.{user_at}
use Rattle.service_model.specs.Cases.{role_of, by_link, place_of}
use Rattle.session_turns.specs.Joins.{KeepsRights, Rights, Seat}
use Rattle.session_asking.specs.declared.asking.Turn.{Turn}
use Rattle.session_asking.specs.declared.asking.Turn.TheVariants as turns
use Rattle.session_asking.specs.declared.exported.Exported.{Exported}
use Rattle.session_asking.specs.declared.live.LoggedIn.{LoggedIn}
use Rattle.session_asking.specs.Files.{name_in}
use Rattle.session_asking.specs.Known.{IsServed, IsStillOpen}
use Rattle.session_asking.specs.Made.{exported_bytes}
use Rattle.child_keeper.specs.Tickets.{NamesAccount, user_role}

-- a moment of a worker: what it has seen of the journal, what its post tells and what its child's link tells
pub record Moment : Type 0 where
  pub seen : List Event
  pub scene : Option Scene
  pub link : Option Link

abbrev pub moment : List Event → Option Scene → Option Link → Moment
moment seen scene link = record { seen = seen; scene = scene; link = link }

-- whose requests these are: the run's service, what was exported before, the session and the worker
pub record Whose : Type 0 where
  pub service : Service
  pub exported : List ℕ
  pub session : ℕ
  pub worker : ℕ

abbrev pub whose : Service → List ℕ → ℕ → ℕ → Whose
whose service exported session worker =
    record { service = service; exported = exported; session = session; worker = worker }

-- what a worker answers from: the run's service, and what its session's first child exported
pub record Desk : Type 0 where
  pub service : Service
  pub exported : List ℕ

abbrev pub desk_of : Service → Exported → Desk
desk_of service exported = record { service = service; exported = exported_bytes exported }

-- a session's child: which one it is, what its stream tells of the bytes, and how many faults that had
pub record ChildNow : Type 0 where
  pub role : Role
  pub link : Option Link
  pub faults : ℕ

-- a session whose child is live: its number, its user once one is logged in, and its child
pub record LiveNow : Type 0 where
  pub session : ℕ
  pub user : Option LoggedIn
  pub child : ChildNow

abbrev pub live_of : ℕ → Option LoggedIn → Role → Option Link → ℕ → LiveNow
live_of session user role link faults =
    record { session = session; user = user; child = record { role = role; link = link; faults = faults } }

-- where a worker stands that serves a child: its seat, its desk, its session, and what its post tells and counts
pub record Stand : Type 0 where
  pub seat : Seat
  pub desk : Desk
  pub live : LiveNow
  pub scene : Option Scene
  pub faults : Faults

abbrev pub stand : Seat → Desk → LiveNow → Option Scene → Faults → Stand
stand seat desk live scene faults = record { seat = seat; desk = desk; live = live; scene = scene; faults = faults }

-- what of that a story is told by
abbrev pub moment_of : Stand → Moment
moment_of at = moment at.seat.seen at.scene at.live.child.link

abbrev pub whose_of : Stand → Whose
whose_of at = whose at.desk.service at.desk.exported at.live.session at.seat.rights.worker

-- a child may be served: seat and desk are of one setup, and what is known of the session is so
pub record MayServe (at : Stand) : Type 0 where
  pub one : at.seat.setup ≡ at.desk.service.setup
  pub served : IsServed at.desk.service.setup at.seat.rights at.seat.seen at.live.session at.live.user

-- a message may be answered: its child may be served, and it is a whole frame of the run's width
pub record MayAnswer (message : Message) (at : Stand) : Type 0 where
  pub serves : MayServe at
  pub right : IsMessage at.desk.service.setup.frames (frame_max at.desk.service.setup.frames) message

-- what stays while a child is served: setup, service, session, which child it is and whether a user is logged in;
-- and no count of faults falls
pub record Stays (before after : Stand) : Type 0 where
  pub setup : after.seat.setup ≡ before.seat.setup
  pub service : after.desk.service ≡ before.desk.service
  pub session : after.live.session ≡ before.live.session
  pub role : after.live.child.role ≡ before.live.child.role
  pub user : is_some after.live.user ≡ is_some before.live.user
  pub link : before.live.child.faults ≤ after.live.child.faults
  pub kept : NoneFell before.faults after.faults

-- the places that a worker gained
pub record Steps (worker : ℕ) (steps : List Step) (old new : List Event) : Type 0 where
  pub own : worker_places new worker ≡ worker_places old worker ++ step_places steps

-- what a child was sent for its request, by why its session ends after it, if it does
abbrev pub Answers : Service → List ℕ → Turn → Step → List ℕ → Type 0
Answers service exported turns.GoesOn step sent =
    GoesOn service exported step × (sent ≡ answer_to service exported step)
Answers service exported (turns.Ends why) step sent =
    LastSent (EndsSession why) (answer_to service exported step) sent
    × (EndsSession why ≢ by_link → EndsSo service.setup.frames (EndsSession why) (Some step) [] [])
Answers service exported (turns.HandsOver e) step sent = ⊥

-- a message was served: one step of the worker
pub record HasServed (w : Whose) (message : Message) (turn : Turn) (before after : Moment) : Type 0 where
  pub step : Step
  pub came : step.message ≡ Some message
  pub is : IsRequestStep w.service step
  pub steps : Steps w.worker (step ∷ []) before.seen after.seen
  pub acts : Goes (Played step.acts [] []) before.scene after.scene
  pub sent : List ℕ
  pub bytes : Goes (Exchanged [] sent) before.link after.link
  pub answers : Answers w.service w.exported turn step sent

-- a permitted EXPORT stands after these events: nothing is done for it yet, and nothing sent
pub record HasExported (w : Whose) (message : Message) (e : Event) (before after : Moment) : Type 0 where
  pub front : List Event
  pub exported : exports e ≡ true
  pub came : CameBy w.service message e.ask
  pub session_is : e.session ≡ w.session
  pub steps : Steps w.worker (record { place = place_of front e; message = Some message; acts = [] } ∷ []) before.seen
      after.seen
  pub acts : Goes (Played [] [] []) before.scene after.scene
  pub bytes : Goes (Exchanged [] []) before.link after.link
  pub named : NamesAccount w.service.setup e
  pub role : user_role w.service.setup e ≡ role_of e.session (user_at w.service.setup (place_of front e))

-- what followed a message
abbrev pub Serves : Whose → Message → Turn → Moment → Moment → Type 0
Serves w message (turns.HandsOver e) before after = HasExported w message e before after
Serves w message turn before after = HasServed w message turn before after

-- a session that goes on has made one ask more, and is served on
pub record WentOn (setup : Settings) (session : ℕ) (rights_old : Rights) (old : List Event) (rights_new : Rights)
    (new : List Event) (user : Option LoggedIn) : Type 0 where
  pub served : IsServed setup rights_new new session user
  pub asks : ask_count new session ≡ ask_count old session + 1

-- a user that was just handed a session: the account is the one that the EXPORT names, and no file is open
pub record IsNewUser (user : LoggedIn) (e : Event) : Type 0 where
  pub account : user.account ≡ value_of e.decision
  pub files : (handle : ℕ) → name_in user.files.names handle ≡ None

-- a session whose user's child is next has made one ask more, and that child may be served
pub record HandsWith (setup : Settings) (session : ℕ) (old : List Event) (rights_new : Rights) (new : List Event)
    (e : Event) : Type 0 where
  pub served : (logged_in : LoggedIn) → IsNewUser logged_in e → IsServed setup rights_new new session (Some logged_in)
  pub asks : ask_count new session ≡ ask_count old session + 1

-- what is left to a worker after a message: a session that goes on,
-- that is still to be ended, or whose user's child is next
abbrev pub Leaves : Settings → ℕ → Turn → Rights → List Event → Rights → List Event → Option LoggedIn → Type 0
Leaves setup session turns.GoesOn rights_old old rights_new new user =
    WentOn setup session rights_old old rights_new new user
Leaves setup session (turns.Ends why) rights_old old rights_new new user = IsStillOpen setup rights_new new session
Leaves setup session (turns.HandsOver e) rights_old old rights_new new user =
    HandsWith setup session old rights_new new e

-- what is kept of what a session exported: a permitted EXPORT hands on its message's body, and nothing else changes it
pub record HasReplied (turn : Turn) (body : List ℕ) (old new : List ℕ) : Type 0 where
  pub handed : (e : Event) → turn ≡ turns.HandsOver e → new ≡ body
  pub kept : ((e : Event) → turn ≢ turns.HandsOver e) → new ≡ old

-- the reason that a turn gives is one that may be asked for
abbrev pub IsProperTurn : Turn → Type 0
IsProperTurn (turns.Ends why) = is_proper_why why ≡ true
IsProperTurn _ = Unit {0}

-- a turn ends a session only for a reason that may be asked for, by a fault of the link just where one was counted, and
-- hands it over only before a login
pub record EndsProperly (turn : Turn) (before after : Stand) : Type 0 where
  pub proper : IsProperTurn turn
  pub fault : turn ≡ turns.Ends LinkFault → 0 < after.live.child.faults
  pub calm : turn ≢ turns.Ends LinkFault → after.live.child.faults ≡ before.live.child.faults
  pub once : (e : Event) → turn ≡ turns.HandsOver e → is_some before.live.user ≡ false

-- a message was answered, or its session handed over
pub record Answered (message : Message) (turn : Turn) (before after : Stand) : Type 0 where
  pub serves : Serves (whose_of before) message turn (moment_of before) (moment_of after)
  pub unasked : Goes IsUnasked before.live.child.link after.live.child.link
  pub leaves : Leaves before.desk.service.setup before.live.session turn before.seat.rights before.seat.seen
      after.seat.rights after.seat.seen after.live.user
  pub rights : KeepsRights 1 before.seat.rights after.seat.rights
  pub replied : HasReplied turn message.body before.desk.exported after.desk.exported
  pub ends : EndsProperly turn before after
  pub stays : Stays before after
