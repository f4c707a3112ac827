-- Inner: that a session's shipped children break no rule, and where their session stands at each of their requests.
use Rattle.std.specs.Prelude.{◌≡◌, ℕ, true, false, List, [], ◌∷◌, Some}
use Rattle.std.specs.List.{AllByRecursion}
use Rattle.imsg_frame.specs.Message.{spelling_of}
use Rattle.imsg_frame.specs.Requests.{request_message}
use Rattle.request_catalogue.specs.Catalogue.{RequestValue}
use Rattle.policy_model.specs.declared.event.Decision.TheVariants.{Deny}
use Rattle.policy_model.specs.Asks.{is_lost, is_violation}
use Rattle.policy_model.specs.Settings.{Settings}
use Rattle.child_protocol.specs.Exchanges.{Exchange}
use Rattle.child_protocol.specs.Says.{Role, next_request}
use Rattle.service_model.specs.Answers.{answer_to, reply_message}
use Rattle.service_model.specs.Parts.{Part, exported_by, requests_of}
use Rattle.service_model.specs.Places.{Step}
use Rattle.service_model.specs.Service.{Service}
use Rattle.service_model.specs.Sittings.{Sitting}
use Rattle.dialogue_laws.specs.Dialogue.{Answers, StandsAlike}
use Rattle.welcome_laws.specs.Shipped.{IsShipped, shipped_role}

-- no request of these steps is denied by one of the rules 2 to 7: a denial that ends the session says that all its asks
-- are made
abbrev pub AreMild : Settings → List Step → Type 0
AreMild setup steps =
    AllByRecursion (λ step. is_violation step.place.event.decision ≡ true
    → step.place.event.decision ≡ Deny 1 setup.requests) steps

-- a step's message is what the shipped child asks next after these exchanges; unless its decision was lost, the session
-- stands where that child takes it to stand
pub record IsAskedNext (service : Service) (role : Role) (history : List Exchange) (request : RequestValue)
    (step : Step) : Type 0 where
  pub next : next_request role history ≡ Some request
  pub message : step.message ≡ Some (request_message request)
  pub stands : is_lost step.place.event.decision ≡ false
      → StandsAlike service.setup step.place.before step.place.event.session role history step.place.event

-- a step's request was answered by its decision, as it is shown, and the bytes that were sent spell that answer
pub record IsExchanged (service : Service) (exported : List ℕ) (x : Exchange) (step : Step) : Type 0 where
  pub told : Answers step.place.event x
  pub sent : answer_to service exported step ≡ spelling_of service.setup.frames
      (reply_message (request_message x.request) step.place.event.session x.answer)

-- steps are a shipped child's dialogue after these exchanges: each is its next request, and each before another one is
-- an exchange of it
abbrev pub AreDialogue : Service → List ℕ → Role → List Exchange → List Step → Type 0
AreDialogue service exported role history [] = Unit {0}
AreDialogue service exported role history (step ∷ []) =
    (request : RequestValue) × IsAskedNext service role history request step
AreDialogue service exported role history (step ∷ next ∷ steps) =
    (x : Exchange) × IsAskedNext service role history x.request step × IsExchanged service exported x step
    × AreDialogue service exported role (x ∷ history) (next ∷ steps)

-- a child's requests break none of the rules 2 to 7, and are the shipped child's dialogue from its beginning
pub record KeepsRules (service : Service) (exported : List ℕ) (part : Part) : Type 0 where
  pub mild : AreMild service.setup (requests_of part)
  pub dialogue : AreDialogue service exported (shipped_role part.role) [] (requests_of part)

-- each child of a session keeps the rules, the user's child being answered with the state exported before
abbrev pub KeepRules : Service → List ℕ → List Part → Type 0
KeepRules service exported [] = Unit {0}
KeepRules service exported (part ∷ parts) =
    KeepsRules service exported part × KeepRules service (exported_by part.final) parts

-- in every session whose children are the shipped ones, each of them keeps the rules
abbrev pub ChildrenKeepRules : Service → List Sitting → Type 0
ChildrenKeepRules service sittings =
    AllByRecursion (λ sitting. AllByRecursion IsShipped sitting.parts → KeepRules service [] sitting.parts) sittings
