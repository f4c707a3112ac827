-- Inner: what is asked by a message, and what follows.
use Rattle.std.specs.Prelude.{◌≡◌, ℕ, ◌≤◌, true, false, List, [], ◌∷◌, Option, Result, Ok, Err}
use Rattle.request_catalogue.specs.declared.request.Bad.{Bad}
use Rattle.request_catalogue.specs.declared.request.Request.{Request}
use Rattle.request_catalogue.specs.declared.width.Width.{Width}
use Rattle.request_catalogue.specs.Catalogue.{RequestValue, value_of}
use Rattle.request_catalogue.specs.Catalogue as requests
use Rattle.request_catalogue.specs.Widths.{transfer_max}
use Rattle.otp_words.specs.Candidates.{AreCandidatesOf}
use Rattle.outside.specs.declared.act.Act.{Act}
use Rattle.outside.specs.declared.act.Act.TheVariants as acts
use Rattle.policy_model.specs.declared.event.Ask.{Ask}
use Rattle.policy_model.specs.declared.event.Ask.TheVariants as asks
use Rattle.policy_model.specs.declared.event.Event.{Event}
use Rattle.policy_model.specs.Asks.{ends_session}
use Rattle.policy_model.specs.Cases.{is_proper_why}
use Rattle.service_model.specs.Parts.{why_of}
use Rattle.session_asking.specs.declared.asking.Turn.{Turn}
use Rattle.session_asking.specs.declared.asking.Turn.TheVariants as turns

pub record IsRuleOfBad (bad : Bad) : Type 0 where
  pub low : 2 ≤ bad.rule
  pub high : bad.rule ≤ 5

-- what was read of a message, as a value
abbrev pub read_value : Result Request Bad → Result RequestValue Bad
read_value (Ok request) = Ok (value_of request)
read_value (Err bad) = Err bad

-- the state that an EXPORT hands on
abbrev pub state_by : Result RequestValue Bad → List ℕ
state_by (Ok (requests.Export state)) = state
state_by _ = []

-- the ask of a REPLY with this text
abbrev pub IsReplyOf : List (List ℕ) → List ℕ → Ask → Type 0
IsReplyOf words text ask =
    (spelled : Option ℕ) × (hex : Option ℕ) × AreCandidatesOf words text spelled hex × (ask ≡ asks.Reply spelled hex)

-- a READ asks for some bytes, and for no more than one request transfers
abbrev pub FitsPiece : Width → Ask → Type 0
FitsPiece width (asks.ReadAt handle offset max) = (1 ≤ max) × (max ≤ transfer_max width)
FitsPiece width _ = Unit {0}

-- the clock is read for a CHALLENGE
abbrev pub clock_acts : Ask → List Act
clock_acts (asks.Challenge user now) = acts.Clock now ∷ []
clock_acts _ = []

-- what follows a request that was answered: it isn't a permitted EXPORT
abbrev pub IsTurnOf : Event → Turn → Type 0
IsTurnOf e turns.GoesOn = ends_session e ≡ false
IsTurnOf e (turns.Ends why) = (ends_session e ≡ true) × (why ≡ why_of e.decision) × (is_proper_why why ≡ true)
IsTurnOf e (turns.HandsOver event) = ⊥
