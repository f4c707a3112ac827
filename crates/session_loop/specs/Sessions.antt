-- Inner: what the children of a session had, and how it ended.
use Rattle.std.specs.Prelude.{◌≡◌, ◌≢◌, ℕ, ◌+◌, ◌<◌, ◌≤◌, true, false, List, [], ◌∷◌, ◌++◌, map, Option, Some, None}
use Rattle.std.specs.Prelude.{Result, Ok, Err, is_some}
use Rattle.std.specs.List.{AllByRecursion, flat_map, list_any}
use Rattle.outside.specs.declared.act.Act.{Act}
use Rattle.outside.specs.declared.act.Act.TheVariants.{Accept, HangUp}
use Rattle.outside.specs.declared.act.Accepted.TheVariants.{Came}
use Rattle.outside.specs.declared.act.Failed.{Failed}
use Rattle.outside.specs.declared.act.Role.{Role}
use Rattle.outside.specs.declared.act.Role.TheVariants.{Pre}
use Rattle.outside.specs.declared.faults.Faults.{Faults}
use Rattle.outside.specs.Faults.{NoneFell}
use Rattle.outside.specs.Link.{Link}
use Rattle.outside.specs.Scene.{Did, GivenBack, Played, Scene, bytes_at, came_count, is_failed_start}
use Rattle.outside.specs.Told.{Goes, Rose}
use Rattle.policy_model.specs.declared.event.Ask.TheVariants.{End}
use Rattle.policy_model.specs.declared.event.Event.{Event}
use Rattle.policy_model.specs.declared.event.Why.{Why}
use Rattle.policy_model.specs.declared.event.Why.TheVariants as whys
use Rattle.policy_model.specs.Asks.{exports, is_lost}
use Rattle.policy_model.specs.Journal.{ask_count, open_session_of}
use Rattle.policy_model.specs.Runs.{IsIdle, IsRun}
use Rattle.policy_model.specs.Settings.{Settings}
use Rattle.service_model.specs.Acts.{Starts, ending_operations, operation_of}
use Rattle.service_model.specs.Parts.{EndsSession, IsPart, Part, requests_of}
use Rattle.service_model.specs.Places.{Step, step_acts}
use Rattle.service_model.specs.Service.{Service}
use Rattle.service_model.specs.Sittings.{AreParts, IsEnding, IsSitting, Sitting, all_steps, live_role}
use Rattle.service_model.specs.Stories.{IsPlanned, talk_of}
use Rattle.child_keeper.specs.Starts.{ChangesChild, IsNewChild}
use Rattle.child_keeper.specs.Tickets.{NamesAccount}
use Rattle.session_asking.specs.declared.live.LoggedIn.{LoggedIn}
use Rattle.session_asking.specs.Known.{IsServed}
use Rattle.session_asking.specs.Serving.{IsNewUser, MayServe, Stand, Steps, Whose}
use Rattle.session_turns.specs.Joins.{Rights, Seat}

-- the end of a worker's session may be asked for
pub record CanEnd (setup : Settings) (rights : Rights) (seen : List Event) : Type 0 where
  pub run : IsRun setup seen
  pub some : open_session_of seen rights.worker ≢ 0
  pub left : 0 < rights.left

-- the end of a session, with these acts
pub record HasEnd (session worker : ℕ) (live : Role) (why : Why) (done : List Act) (old new : List Event) : Type 0 where
  pub ending : Step
  pub ends : IsEnding session live why ending
  pub acts : ending.acts ≡ done
  pub steps : Steps worker (ending ∷ []) old new

-- a worker's open session was ended: whatever is done for its end stands in the step
pub record EndsOpen (worker : ℕ) (why : Why) (old new : List Event) : Type 0 where
  pub by : (live : Role) (done : List Act) → map operation_of done ≡ ending_operations live why
      → HasEnd (open_session_of old worker) worker live why done old new

-- a worker has no session any more, or a decision was lost
pub record IsOver (setup : Settings) (worker : ℕ) (seen : List Event) : Type 0 where
  pub run : IsRun setup seen
  pub idle : IsIdle seen worker

-- a child was given back, and the connection was closed
pub record ClosesWith (role : Role) (link : Option Link) (before after : Option Scene) : Type 0 where
  pub between : Option Scene
  pub given_back : GivenBack role link before between
  pub closed : Did HangUp between after

-- a part's bytes, taken or left unread, are what the plan has for the connection that came last
abbrev pub IsPlannedPart : Part → Scene → Scene → Type 0
IsPlannedPart part b a = part.taken ++ part.unread ≡ bytes_at part.role b.plan (came_count b.acts)

-- a child was served to the end of its session and given back, and the session ended
pub record HasPart (w : Whose) (live : Role) (why : Why) (old new : List Event)
    (before after : Option Scene) : Type 0 where
  pub part : Part
  pub role : part.role ≡ live
  pub is : IsPart w.service w.exported (EndsSession why) part
  pub served : why ≢ whys.KeeperFault
  pub ending : Step
  pub ends : IsEnding w.session live why ending
  pub steps : Steps w.worker (requests_of part ++ ending ∷ []) old new
  pub played : Goes (Played (step_acts (requests_of part ++ ending ∷ [])) (talk_of part ∷ []) (part.unread ∷ []))
      before after
  pub planned : Goes (IsPlannedPart part) before after

-- a session ended by a fault of a link or a start only where such a count rose
pub record EndHasCause (why : Why) (faults_old faults_new : Faults) : Type 0 where
  pub link : why ≡ whys.LinkFault → Rose faults_old.link faults_new.link
  pub keeper : why ≡ whys.KeeperFault → Rose faults_old.keeper faults_new.keeper
  pub kept : NoneFell faults_old faults_new

-- a worker made at most so many asks
pub record SpendsAtMost (most : ℕ) (old new : Rights) : Type 0 where
  pub worker : new.worker ≡ old.worker
  pub left : old.left ≤ new.left + most

-- a worker whose session has ended has made at most its asks and two more: one beyond the limit, and the end
pub record LeavesWithin (setup : Settings) (session : ℕ) (rights_old : Rights) (old : List Event)
    (rights_new : Rights) : Type 0 where
  pub worker : rights_new.worker ≡ rights_old.worker
  pub left : rights_old.left + ask_count old session ≤ rights_new.left + setup.requests + 2

-- what followed the change to the user's child: it was served to the end of the session, or could not be started
abbrev pub AfterChange : Whose → Role → Role → Result (Unit {0}) Failed → Why → List Event → List Event → Option Scene
    → Option Scene → Type 0
AfterChange w pre user (Ok done) why old new mid after = HasPart w user why old new mid after
AfterChange w pre user (Err failed) why old new mid after =
    (why ≡ whys.KeeperFault) × HasEnd w.session w.worker pre whys.KeeperFault (HangUp ∷ []) old new
    × Did HangUp mid after

-- the child before the login was changed for the user's, and the session was served to its end
pub record HasSecond (w : Whose) (pre : Role) (link : Option Link) (user : Role) (why : Why) (old new : List Event)
    (before after : Option Scene) : Type 0 where
  pub outcome : Result (Unit {0}) Failed
  pub mid : Option Scene
  pub change : ChangesChild pre link user outcome before mid
  pub rest : AfterChange w pre user outcome why old new mid after

-- a session may begin: its worker's seat is of this setup, and the session is served, with nobody logged in
pub record MayBegin (setup : Settings) (seat : Seat) (session : ℕ) : Type 0 where
  pub one : seat.setup ≡ setup
  pub served : IsServed setup seat.rights seat.seen session None

-- a session's child before the login may be served, which was just started; nothing is exported yet
pub record MayServePre (at : Stand) : Type 0 where
  pub serves : MayServe at
  pub nothing : at.desk.exported ≡ []
  pub child : IsNewChild (Pre at.live.session) at.live.child.role at.live.child.link at.live.child.faults at.scene

-- a session's child of its user may be served, which was just started
pub record MayServeUser (at : Stand) : Type 0 where
  pub serves : MayServe at
  pub user : is_some at.live.user ≡ true
  pub child : IsNewChild at.live.child.role at.live.child.role at.live.child.link at.live.child.faults at.scene

-- a session may be handed over by this event: a permitted EXPORT that
-- names an account, as whose user the session may be
-- served
pub record MayHandOver (setup : Settings) (seat : Seat) (session : ℕ) (e : Event) : Type 0 where
  pub one : seat.setup ≡ setup
  pub exported : exports e ≡ true
  pub known : NamesAccount setup e
  pub served : (logged_in : LoggedIn) → IsNewUser logged_in e
      → IsServed setup seat.rights seat.seen session (Some logged_in)

-- a session has ended, for this reason: its worker has none, or a decision was lost; how many asks it made; and a fault
-- was counted where the reason is one
pub record SessionIsOver (setup : Settings) (session : ℕ) (why : Why) (before after : Seat)
    (faults_old faults_new : Faults)
    : Type 0 where
  pub over : IsOver setup before.rights.worker after.seen
  pub rights : LeavesWithin setup session before.rights before.seen after.rights
  pub cause : EndHasCause why faults_old faults_new

-- the same of a session from its opening on
pub record WorkerIsFree (setup : Settings) (why : Why) (before after : Seat)
    (faults_old faults_new : Faults) : Type 0 where
  pub over : IsOver setup before.rights.worker after.seen
  pub rights : SpendsAtMost (setup.requests + 3) before.rights after.rights
  pub cause : EndHasCause why faults_old faults_new

-- what followed the start of a session's first child: what the children had, and the end
pub record HasChildren (service : Service) (session worker : ℕ) (why : Why) (old new : List Event)
    (before after : Option Scene) : Type 0 where
  pub parts : List Part
  pub are : (opening : Step) → list_any is_failed_start opening.acts ≡ false → opening.place.event.session ≡ session
      → AreParts service why opening parts
  pub ending : Step
  pub ends : IsEnding session (live_role (Pre session) parts) why ending
  pub steps : Steps worker (flat_map requests_of parts ++ ending ∷ []) old new
  pub played : Goes (Played (step_acts (flat_map requests_of parts ++ ending ∷ [])) (map talk_of parts)
      (map (λ part. part.unread) parts)) before after
  pub planned : Goes (λ b a. AllByRecursion (λ part. part.taken ++ part.unread ≡ bytes_at part.role b.plan
      (came_count b.acts)) parts) before after

-- what followed the opening of a session: the start of its first child, what the children had, and the end
pub record HasRest (service : Service) (session worker : ℕ) (why : Why) (old new : List Event)
    (before after : Option Scene) : Type 0 where
  pub start : Act
  pub asked_for : operation_of start ≡ Starts (Pre session)
  pub parts : List Part
  pub are : (opening : Step) → list_any is_failed_start opening.acts ≡ list_any is_failed_start (start ∷ [])
      → opening.place.event.session ≡ session → AreParts service why opening parts
  pub ending : Step
  pub ends : IsEnding session (live_role (Pre session) parts) why ending
  pub steps : Steps worker (flat_map requests_of parts ++ ending ∷ []) old new
  pub played : Goes (Played (start ∷ step_acts (flat_map requests_of parts ++ ending ∷ [])) (map talk_of parts)
      (map (λ part. part.unread) parts)) before after
  pub planned : Goes (λ b a. AllByRecursion (λ part. part.taken ++ part.unread ≡ bytes_at part.role b.plan
      (came_count b.acts)) parts) before after

-- why a session ended, as its end tells; none ends where its opening is lost
abbrev pub EndsFor : Why → Option Step → Type 0
EndsFor why None = why ≡ whys.LogLost
EndsFor why (Some ending) = ending.place.event.ask ≡ End why

-- one session was served over a connection that came
pub record HasSitting (service : Service) (worker : ℕ) (why : Why) (old new : List Event)
    (before after : Option Scene) : Type 0 where
  pub sitting : Sitting
  pub is : IsSitting service sitting
  pub ended : EndsFor why sitting.ending
  pub steps : Steps worker (all_steps sitting) old new
  pub done : List Act
  pub acts : step_acts (all_steps sitting) ≡ Accept Came ∷ done
  pub played : Goes (Played done (map talk_of sitting.parts) (map (λ part. part.unread) sitting.parts)) before after
  pub planned : Goes (λ b a. IsPlanned b.plan (came_count b.acts) sitting) before after

-- a worker may open a session: it has none, and asks are left for a whole one
pub record MayOpen (setup : Settings) (rights : Rights) (seen : List Event) : Type 0 where
  pub run : IsRun setup seen
  pub idle : IsIdle seen rights.worker
  pub left : setup.requests + 3 ≤ rights.left

-- a session was opened for a worker, or its opening is lost
pub record Opens (service : Service) (rights_old : Rights) (old : List Event) (rights_new : Rights) (new : List Event)
    (e : Event) : Type 0 where
  pub over : is_lost e.decision ≡ true → IsOver service.setup rights_old.worker new
  pub served : is_lost e.decision ≡ false → IsServed service.setup rights_new new e.session None
  pub asks : is_lost e.decision ≡ false → ask_count new e.session ≡ 0
  pub lost : is_lost e.decision ≡ true → (before after : Option Scene) → Did HangUp before after
      → HasSitting service rights_old.worker whys.LogLost old new before after
  pub sat : is_lost e.decision ≡ false → (why : Why) (last : List Event) (before after : Option Scene)
      → HasRest service e.session rights_old.worker why new last before after → HasSitting service rights_old.worker why
      old last before after
