-- Believed: one session of a worker, and all of them. A session whose end is itself lost ends for its own reason: its
-- worker accepts once more, and then that opening is lost.
use Rattle.std.specs.Prelude.{◌≡◌, ◌≢◌, ℕ, Bool, true, false, List, [], ◌∷◌, ◌++◌, map, Option, Some, None, IsSomeAnd}
use Rattle.std.specs.Prelude.{option_to_list}
use Rattle.std.specs.List.{AllByRecursion, flat_map, list_any}
use Rattle.std.specs.Option.{option_map_or}
use Rattle.outside.specs.declared.act.Role.{Role}
use Rattle.outside.specs.declared.act.Role.TheVariants.{Pre}
use Rattle.outside.specs.Scene.{is_failed_start}
use Rattle.policy_model.specs.declared.event.Ask.TheVariants as asks
use Rattle.policy_model.specs.declared.event.Event.{Event}
use Rattle.policy_model.specs.declared.event.Why.{Why}
use Rattle.policy_model.specs.declared.event.Why.TheVariants as whys
use Rattle.policy_model.specs.Asks.{is_lost, is_permit}
use Rattle.policy_model.specs.Settings.{Settings}
use Rattle.service_model.specs.Answers.{answers}
use Rattle.service_model.specs.Acts.{AreActsOf, ending_operations, operation_of}
use Rattle.service_model.specs.Service.{Service}
use Rattle.service_model.specs.Places.{Step, step_places, worker_places}
use Rattle.service_model.specs.Ends.{is_lost_end}
use Rattle.service_model.specs.Parts.{EndsSession, HandsOver, IsPart, Part, exported_by, requests_of}
use Rattle.service_model.specs.Users.{user_role}

-- a session as it was served: its opening, what each child had of it, and its end; a lost opening has no end
pub record Sitting : Type 0 where
  pub opening : Step
  pub parts : List Part
  pub ending : Option Step

-- all steps of a session, in order
abbrev pub all_steps : Sitting → List Step
all_steps sitting = sitting.opening ∷ flat_map requests_of sitting.parts ++ option_to_list sitting.ending

-- no second child was served: the first ended the session, or the user's child could not be started
abbrev pub EndsFirst : Service → Why → Part → Type 0
EndsFirst service whys.KeeperFault pre =
    IsPart service [] HandsOver pre × (list_any is_failed_start (option_map_or (λ step. step.acts) pre.final []) ≡ true)
EndsFirst service why pre = IsPart service [] (EndsSession why) pre

-- the first child handed over to the child of the user who logged in, and that one ended the session
pub record ChangesUser (service : Service) (why : Why) (pre user : Part) : Type 0 where
  pub first : IsPart service [] HandsOver pre
  pub started : list_any is_failed_start (option_map_or (λ step. step.acts) pre.final []) ≡ false
  pub verified : IsSomeAnd pre.final (λ step. user.role ≡ user_role service.setup step.place)
  pub second : IsPart service (exported_by pre.final) (EndsSession why) user
  pub served : why ≢ whys.KeeperFault

-- a session's children: none if the first didn't start, else the one before the login, and the user's if it started
abbrev pub AreParts : Service → Why → Step → List Part → Type 0
AreParts service why opening [] = (list_any is_failed_start opening.acts ≡ true) × (why ≡ whys.KeeperFault)
AreParts service why opening (pre ∷ []) =
    (list_any is_failed_start opening.acts ≡ false) × (pre.role ≡ Pre opening.place.event.session)
    × EndsFirst service why pre
AreParts service why opening (pre ∷ user ∷ []) =
    (list_any is_failed_start opening.acts ≡ false) × (pre.role ≡ Pre opening.place.event.session)
    × ChangesUser service why pre user
AreParts service why opening (pre ∷ user ∷ other ∷ parts) = ⊥

-- the last child of a session, which is live at its end
abbrev pub live_role : Role → List Part → Role
live_role role [] = role
live_role role (part ∷ parts) = live_role part.role parts

-- the opening of a session, with exactly the operations that it calls for
pub record IsOpening (setup : Settings) (step : Step) : Type 0 where
  pub ask : step.place.event.ask ≡ asks.Begin
  pub none : step.message ≡ None
  pub acts : AreActsOf setup step.place None step.acts

-- the end of a session, with exactly the operations that it calls for
pub record IsEnding (session : ℕ) (live : Role) (why : Why) (step : Step) : Type 0 where
  pub ask : step.place.event.ask ≡ asks.End why
  pub session_is : step.place.event.session ≡ session
  pub none : step.message ≡ None
  pub operations : map operation_of step.acts ≡ ending_operations live why

-- what follows an opening: nothing if it was lost, otherwise the session's children and its end
abbrev pub Follows : Service → Step → List Part → Option Step → Type 0
Follows service opening parts None = (is_lost opening.place.event.decision ≡ true) × (parts ≡ [])
Follows service opening parts (Some ending) =
    (is_permit opening.place.event.decision ≡ true)
    × ((why : Why) × IsEnding opening.place.event.session (live_role (Pre opening.place.event.session) parts) why ending
    × AreParts service why opening parts)

-- one whole session of a worker, from its opening to its end
pub record IsSitting (service : Service) (sitting : Sitting) : Type 0 where
  pub begins : IsOpening service.setup sitting.opening
  pub round : Follows service sitting.opening sitting.parts sitting.ending

-- a session after which its worker serves no more: its opening was lost, or it ended because a decision was lost
abbrev pub ends_worker : Sitting → Bool
ends_worker sitting = option_map_or (λ ending. is_lost_end ending.place.event.ask) sitting.ending true

-- no session follows one after which its worker serves no more
abbrev pub NoneBehindLoss : List Sitting → Type 0
NoneBehindLoss [] = Unit {0}
NoneBehindLoss (sitting ∷ behind) = (ends_worker sitting ≡ true → behind ≡ []) × NoneBehindLoss behind

-- these sessions are all of a worker's events, in order; one that lost its opening, or ended by a loss, is the last
pub record AreSittingsOf (service : Service) (journal : List Event) (worker : ℕ)
    (sittings : List Sitting) : Type 0 where
  pub places : worker_places journal worker ≡ step_places (flat_map all_steps sittings)
  pub each : AllByRecursion (IsSitting service) sittings
  pub alone : NoneBehindLoss sittings

-- each child was sent the whole answer to each of its requests, the user's with the state exported before
abbrev pub AreAnswered : Service → List ℕ → List Part → Type 0
AreAnswered service exported [] = Unit {0}
AreAnswered service exported (part ∷ parts) =
    (part.sent ≡ answers service exported (requests_of part)) × AreAnswered service (exported_by part.final) parts
