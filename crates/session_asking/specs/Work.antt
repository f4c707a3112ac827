-- Inner: what is done for an event after its decision, and what is told of it.
use Rattle.std.specs.Prelude.{◌≡◌, ℕ, ◌≤◌, List, [], ◌∷◌, map, filter_map, slice_get, take, Option, Some, None}
use Rattle.std.specs.Int.{w32, to_le_bytes}
use Rattle.std.specs.List.{flat_map}
use Rattle.request_catalogue.specs.Replies.{AnswerValue, Done, Denied, Device}
use Rattle.outside.specs.declared.act.Act.{Act}
use Rattle.outside.specs.Scene.{Played, Scene}
use Rattle.outside.specs.Told.{Goes}
use Rattle.policy_model.specs.declared.account.Account.{Account}
use Rattle.policy_model.specs.declared.event.Ask.{Ask}
use Rattle.policy_model.specs.declared.event.Ask.TheVariants as asks
use Rattle.policy_model.specs.declared.event.Decision.{Decision}
use Rattle.policy_model.specs.declared.event.Decision.TheVariants as decisions
use Rattle.service_model.specs.Acts.{Operation, ReadsFile, Receives, Sends, WritesFile, bytes_read, failed_device}
use Rattle.service_model.specs.Acts.{operation_of, read_operations, write_operations}
use Rattle.service_model.specs.Cases.{if_permitted, imported_state, outcome_value}
use Rattle.service_model.specs.Answers.{challenge_text, info_text}
use Rattle.service_model.specs.Service.{Service}
use Rattle.service_model.specs.Users.{File}
use Rattle.session_asking.specs.declared.work.Outcome.{Outcome}
use Rattle.session_asking.specs.declared.work.Outcome.TheVariants as outcomes
use Rattle.session_asking.specs.declared.work.Work.{Work}
use Rattle.session_asking.specs.declared.work.Work.TheVariants as works

-- the operations of an ask after its decision, by the files of its session and the bytes to write
abbrev pub done_operations : Ask → Decision → (ℕ → Option File) → List ℕ → List Operation
done_operations (asks.ReadAt handle offset max) decision file bytes =
    if_permitted decision (read_operations handle (file handle) offset max)
done_operations (asks.WriteAt handle offset len) decision file bytes =
    if_permitted decision (write_operations handle (file handle) offset bytes)
done_operations _ decision file bytes = []

abbrev pub work_operations : Work → List Operation
work_operations works.Nothing = []
work_operations (works.Receive max) = Receives max ∷ []
work_operations (works.Send bytes) = Sends bytes.now ∷ []
work_operations (works.ReadFile file offset max) = ReadsFile file.uid file.name offset max ∷ []
work_operations (works.WriteFile file offset bytes) = WritesFile file.uid file.name offset bytes.now ∷ []

-- what is to be received or read fits a piece of this length
abbrev pub FitsWork : ℕ → Work → Type 0
FitsWork room (works.Receive max) = (1 ≤ max) × (max ≤ room)
FitsWork room (works.ReadFile file offset max) = (1 ≤ max) × (max ≤ room)
FitsWork room _ = Unit {0}

-- what is told of an outcome, with its bytes in front of a piece
abbrev pub told : Outcome → List ℕ → AnswerValue
told (outcomes.Done len) piece = Done (take len piece)
told (outcomes.Failed device) piece = Device device

abbrev pub Fits : Outcome → ℕ → Type 0
Fits (outcomes.Done len) room = len ≤ room
Fits (outcomes.Failed device) room = (1 ≤ device) × (device ≤ 2)

-- these operations were done, and this came of them
pub record Does (operations : List Operation) (outcome : Outcome) (piece : List ℕ)
    (before after : Option Scene) : Type 0 where
  pub acts : List Act
  pub are : map operation_of acts ≡ operations
  pub comes : outcome_value (slice_get (filter_map failed_device acts) 0) (flat_map bytes_read acts)
      ≡ told outcome piece
  pub played : Goes (Played acts [] []) before after

-- what is told of a permitted ask of a user with this account, where its operation came to this
abbrev pub told_by : Service → List ℕ → Option Account → Ask → ℕ → AnswerValue → AnswerValue
told_by service exported account asks.Banner value first = Done service.setup.banner
told_by service exported account (asks.Challenge user now) value first = Done (challenge_text service.setup user value)
told_by service exported account asks.Import value first = Done (imported_state account exported)
told_by service exported account (asks.OpenFile mode name) value first = Done (to_le_bytes w32 value)
told_by service exported account (asks.Info number) value first = Done (info_text service.forms number account value)
told_by service exported account _ value first = first

-- the same of any decision: what isn't permitted is told as it is
abbrev pub told_of : Service → List ℕ → Option Account → Ask → Decision → AnswerValue → AnswerValue
told_of service exported account ask (decisions.Permit value) first = told_by service exported account ask value first
told_of service exported account ask _ first = first

-- the value of a permitted OPEN is a handle, that of a permitted INFO a sequence
abbrev pub IsSmallBy : Ask → ℕ → Type 0
IsSmallBy (asks.OpenFile mode name) value = (1 ≤ value) × (value ≤ 8)
IsSmallBy (asks.Info number) value = value ≤ 9999
IsSmallBy _ value = Unit {0}

abbrev pub IsSmall : Ask → Decision → Type 0
IsSmall ask (decisions.Permit value) = IsSmallBy ask value
IsSmall ask _ = Unit {0}

-- what is answered to a decision, where this is told
abbrev pub answered : Decision → AnswerValue → Option AnswerValue
answered (decisions.Permit value) told = Some told
answered (decisions.Deny rule detail) told = Some (Denied rule detail)
answered decisions.Lost told = None
