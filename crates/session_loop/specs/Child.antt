-- Inner: what serving a child did, turn by turn.
use Rattle.std.specs.Prelude.{◌≡◌, ◌≢◌, ℕ, ◌+◌, ◌-◌, ◌*◌, ◌<◌, ◌≤◌, Bool, true, false, List, [], ◌∷◌, ◌++◌, Option}
use Rattle.std.specs.Prelude.{Some, None, option_to_list, length}
use Rattle.std.specs.List.{AllByRecursion}
use Rattle.imsg_frame.specs.Held.{Held}
use Rattle.imsg_frame.specs.Message.{Message}
use Rattle.outside.specs.declared.receiving.Receiving.{Receiving}
use Rattle.outside.specs.Link.{Exchanged, IsAskedOnce, Link}
use Rattle.outside.specs.Scene.{Played}
use Rattle.outside.specs.Told.{Gains, Goes}
use Rattle.policy_model.specs.declared.event.Event.{Event}
use Rattle.policy_model.specs.declared.event.Why.{Why}
use Rattle.policy_model.specs.declared.event.Why.TheVariants.{LinkFault}
use Rattle.policy_model.specs.Asks.{exports}
use Rattle.policy_model.specs.Journal.{ask_count}
use Rattle.policy_model.specs.Settings.{Settings}
use Rattle.request_catalogue.specs.declared.width.Width.{Width}
use Rattle.request_catalogue.specs.Widths.{frame_max}
use Rattle.child_keeper.specs.Tickets.{NamesAccount, user_role}
use Rattle.service_model.specs.Answers.{answers}
use Rattle.service_model.specs.Parts.{EndsSession, EndsSo, GoesOn, IsInOrder, IsRequestStep, LastSent, step_bytes}
use Rattle.service_model.specs.Places.{Step, step_acts}
use Rattle.service_model.specs.Requests.{CameBy}
use Rattle.service_model.specs.Service.{Service}
use Rattle.service_model.specs.Users.{user_at}
use Rattle.service_model.specs.Cases.{role_of, by_link, place_of}
use Rattle.session_asking.specs.declared.asking.Turn.{Turn}
use Rattle.session_asking.specs.declared.asking.Turn.TheVariants as turns
use Rattle.session_asking.specs.declared.live.LoggedIn.{LoggedIn}
use Rattle.session_asking.specs.Known.{IsServed, IsStillOpen}
use Rattle.session_asking.specs.Serving.{EndsProperly, IsNewUser, IsProperTurn, Moment, Stand, Stays, Steps, Whose}
use Rattle.session_asking.specs.Serving.{moment_of, whose_of}
use Rattle.session_turns.specs.Joins.{Rights}

-- a reader of the frames of a session
pub record IsForSessions (width : Width) (reader : Held) : Type 0 where
  pub right : reader.width ≡ width
  pub max : reader.max ≡ frame_max width

-- a receiving was asked in order, counted from where a child's serving began: it had these numbers of bytes taken and
-- sent then, of which so many were held
pub record IsAskedFrom (service : Service) (exported : List ℕ) (served : List Step) (bytes : List ℕ)
    (taken sent held : ℕ) (receiving : Receiving) : Type 0 where
  pub counted : Receiving
  pub is : IsInOrder service exported served bytes counted
  pub had_taken : receiving.taken + held ≡ taken + counted.taken
  pub had_sent : receiving.sent ≡ sent + counted.sent

-- the receivings that were asked while a child's requests were served are in order
pub record AsksFrom (service : Service) (exported : List ℕ) (served : List Step) (held received : List ℕ)
    (before after : Link) : Type 0 where
  pub more : List Receiving
  pub gained : Gains before.receivings more after.receivings
  pub each : AllByRecursion
      (IsAskedFrom service exported served (held ++ received) (length before.taken) (length before.sent) (length held))
      more

-- a child was served, and goes on; held are the bytes taken and not yet framed
pub record Proceeds (w : Whose) (before after : Moment) (held_old held_new : List ℕ) : Type 0 where
  pub served : List Step
  pub steps : Steps w.worker served before.seen after.seen
  pub each : AllByRecursion (IsRequestStep w.service) served
  pub on : AllByRecursion (GoesOn w.service w.exported) served
  pub acts : Goes (Played (step_acts served) [] []) before.scene after.scene
  pub received : List ℕ
  pub framed : held_old ++ received ≡ step_bytes w.service.setup.frames served ++ held_new
  pub bytes : Goes (Exchanged received (answers w.service w.exported served)) before.link after.link
  pub asks : Goes (AsksFrom w.service w.exported served held_old received) before.link after.link

-- the receivings that a link tells
abbrev pub receivings_in : Option Link → Option (List Receiving)
receivings_in None = None
receivings_in (Some link) = link.receivings

-- the bytes that a link tells are still to come
abbrev pub left_in : Option Link → List ℕ
left_in None = []
left_in (Some link) = link.left

-- a child was served to the end of its session
pub record Concludes (w : Whose) (why : Why) (before after : Moment) (held : List ℕ) : Type 0 where
  pub served : List Step
  pub final : Option Step
  pub steps : Steps w.worker (served ++ option_to_list final) before.seen after.seen
  pub each : AllByRecursion (IsRequestStep w.service) (served ++ option_to_list final)
  pub on : AllByRecursion (GoesOn w.service w.exported) served
  pub acts : Goes (Played (step_acts (served ++ option_to_list final)) [] []) before.scene after.scene
  pub received : List ℕ
  pub rest : List ℕ
  pub framed : held ++ received ≡ step_bytes w.service.setup.frames (served ++ option_to_list final) ++ rest
  pub last : List ℕ
  pub bytes : Goes (Exchanged received (answers w.service w.exported served ++ last)) before.link after.link
  pub asks : Goes (AsksFrom w.service w.exported served held received) before.link after.link
  pub sent : LastSent (EndsSession why) (answers w.service w.exported (option_to_list final)) last
  pub ended : EndsSession why ≢ by_link → EndsSo w.service.setup.frames (EndsSession why) final rest
      (left_in after.link)

-- the step of an EXPORT that came by a message
abbrev pub export_step : List Event → Event → Message → Step
export_step front e message = record { place = place_of front e; message = Some message; acts = [] }

-- a child was served up to a permitted EXPORT, for which nothing is done yet and which hands on a state
pub record HandsOn (w : Whose) (e : Event) (state : List ℕ) (before after : Moment) (held : List ℕ) : Type 0 where
  pub served : List Step
  pub front : List Event
  pub message : Message
  pub body : message.body ≡ state
  pub exported : exports e ≡ true
  pub came : CameBy w.service message e.ask
  pub session_is : e.session ≡ w.session
  pub steps : Steps w.worker (served ++ export_step front e message ∷ []) before.seen after.seen
  pub each : AllByRecursion (IsRequestStep w.service) served
  pub on : AllByRecursion (GoesOn w.service w.exported) served
  pub acts : Goes (Played (step_acts served) [] []) before.scene after.scene
  pub received : List ℕ
  pub rest : List ℕ
  pub framed : held ++ received ≡ step_bytes w.service.setup.frames (served ++ export_step front e message ∷ []) ++ rest
  pub bytes : Goes (Exchanged received (answers w.service w.exported served)) before.link after.link
  pub asks : Goes (AsksFrom w.service w.exported served held received) before.link after.link
  pub named : NamesAccount w.service.setup e
  pub role : user_role w.service.setup e ≡ role_of e.session (user_at w.service.setup (place_of front e))

-- one turn of serving a child: it goes on, its session ends, or another
-- child is next; state is what was exported after the turn
abbrev pub TurnTaken : Whose → Turn → List ℕ → Moment → Moment → List ℕ → List ℕ → Type 0
TurnTaken w turns.GoesOn state before after held_old held_new = Proceeds w before after held_old held_new
TurnTaken w (turns.Ends why) state before after held_old held_new = Concludes w why before after held_old
TurnTaken w (turns.HandsOver e) state before after held_old held_new = HandsOn w e state before after held_old

-- a child was served to the end of its part
abbrev pub PartTaken : Whose → Turn → List ℕ → Moment → Moment → List ℕ → Type 0
PartTaken w turns.GoesOn state before after held = ⊥
PartTaken w (turns.Ends why) state before after held = Concludes w why before after held
PartTaken w (turns.HandsOver e) state before after held = HandsOn w e state before after held

-- bytes were received after those that are held, or the child's bytes
-- ended in front of a whole message, or its link failed
abbrev pub Receives : Width → Turn → List ℕ → List ℕ → Option Link → Option Link → Type 0
Receives width turns.GoesOn held_old held_new link_old link_new =
    (received : List ℕ) × (held_old ++ received ≡ held_new) × Goes (Exchanged received []) link_old link_new
Receives width (turns.Ends why) held_old held_new link_old link_new =
    Goes (Exchanged [] []) link_old link_new × (EndsSession why ≢ by_link → EndsSo width (EndsSession why) None held_old
    (left_in link_new))
Receives width (turns.HandsOver e) held_old held_new link_old link_new = ⊥

-- what is left to do for a session: its asks, and within one of them the
-- bytes that the reader has room for, fewer than 65,537
abbrev pub work_left : ℕ → ℕ → ℕ → ℕ → ℕ
work_left requests max asks held = (requests + 1 - asks) * 65537 + (max - held)

-- a turn after which the session goes on
pub record Advances (requests max asks_old asks_new held_old held_new : ℕ) : Type 0 where
  pub less : work_left requests max asks_new held_new < work_left requests max asks_old held_old

-- a child whose turn goes on gave more bytes, for which there was room
abbrev pub IsStillReading : Turn → ℕ → ℕ → ℕ → Type 0
IsStillReading turns.GoesOn held_old held_new max = (held_old < held_new) × (held_new ≤ max)
IsStillReading _ held_old held_new max = Unit {0}

abbrev pub ends_part : Turn → Bool
ends_part turns.GoesOn = false
ends_part _ = true

-- what was exported stays, but where a turn hands over
abbrev pub KeepsState : Turn → List ℕ → List ℕ → Type 0
KeepsState turn old new = ((e : Event) → turn ≢ turns.HandsOver e) → new ≡ old

-- a worker's asks of a session that goes on are just those that the journal counts
pub record CountsAsks (session : ℕ) (rights_old : Rights) (old : List Event) (rights_new : Rights)
    (new : List Event) : Type 0 where
  pub worker : rights_new.worker ≡ rights_old.worker
  pub made : rights_new.left + ask_count new session ≡ rights_old.left + ask_count old session

-- a worker whose session is to be ended has made at most one ask more than the session may
pub record EndsWithin (setup : Settings) (session : ℕ) (rights_old : Rights) (old : List Event)
    (rights_new : Rights) : Type 0 where
  pub worker : rights_new.worker ≡ rights_old.worker
  pub left : rights_old.left + ask_count old session ≤ rights_new.left + setup.requests + 1

-- what is left to a worker after a turn, or a part
abbrev pub SpendsOn : Settings → ℕ → Turn → Rights → List Event → Rights → List Event → Option LoggedIn → Type 0
SpendsOn setup session turns.GoesOn rights_old old rights_new new user =
    IsServed setup rights_new new session user × CountsAsks session rights_old old rights_new new
SpendsOn setup session (turns.Ends why) rights_old old rights_new new user =
    IsStillOpen setup rights_new new session × EndsWithin setup session rights_old old rights_new
SpendsOn setup session (turns.HandsOver e) rights_old old rights_new new user =
    ((logged_in : LoggedIn) → IsNewUser logged_in e → IsServed setup rights_new new session (Some logged_in))
    × CountsAsks session rights_old old rights_new new

-- bytes were received or the child's bytes have ended, so that there are these after those that a reader held
pub record Received (reader : Held) (turn : Turn) (held : List ℕ) (link_old link_new : Option Link)
    (faults_old faults_new : ℕ) : Type 0 where
  pub bytes : Receives reader.width turn reader.bytes held link_old link_new
  pub asked : Goes IsAskedOnce link_old link_new
  pub reads : IsStillReading turn (length reader.bytes) (length held) reader.max
  pub proper : IsProperTurn turn
  pub fault : turn ≡ turns.Ends LinkFault → 0 < faults_new
  pub calm : turn ≢ turns.Ends LinkFault → faults_new ≡ faults_old

-- what a turn, or a part, leaves to a worker, and what stays
pub record TurnLeaves (turn : Turn) (before after : Stand) : Type 0 where
  pub spends : SpendsOn before.desk.service.setup before.live.session turn before.seat.rights before.seat.seen
      after.seat.rights after.seat.seen after.live.user
  pub exported : KeepsState turn before.desk.exported after.desk.exported
  pub ends : EndsProperly turn before after
  pub stays : Stays before after

-- one turn of serving a child was taken
pub record TurnIsDone (turn : Turn) (before after : Stand) (held_old held_new : List ℕ) : Type 0 where
  pub taken : TurnTaken (whose_of before) turn after.desk.exported (moment_of before) (moment_of after) held_old
      held_new
  pub leaves : TurnLeaves turn before after
  pub advances : turn ≡ turns.GoesOn → let setup = before.desk.service.setup in
      Advances setup.requests (frame_max setup.frames) (ask_count before.seat.seen before.live.session)
      (ask_count after.seat.seen before.live.session) (length held_old) (length held_new)

-- a child was served to the end of its part
pub record PartIsDone (turn : Turn) (before after : Stand) (held : List ℕ) : Type 0 where
  pub taken : PartTaken (whose_of before) turn after.desk.exported (moment_of before) (moment_of after) held
  pub leaves : TurnLeaves turn before after

-- a child is being served: how the worker stands now against where its serving began
pub record IsUnderway (before now : Stand) (held_old held_new : List ℕ) : Type 0 where
  pub served : IsServed before.desk.service.setup now.seat.rights now.seat.seen before.live.session now.live.user
  pub counts : CountsAsks before.live.session before.seat.rights before.seat.seen now.seat.rights now.seat.seen
  pub exported : now.desk.exported ≡ before.desk.exported
  pub calm : now.live.child.faults ≡ before.live.child.faults
  pub stays : Stays before now
  pub proceeds : Proceeds (whose_of before) (moment_of before) (moment_of now) held_old held_new
