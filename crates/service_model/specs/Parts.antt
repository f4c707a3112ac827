-- Believed: what one child had of a session.
use Rattle.std.specs.Prelude.{◌≡◌, ◌≢◌, ◌≤◌, ℕ, true, false, List, [], ◌++◌, length, take, Option, Some, None}
use Rattle.std.specs.Prelude.{IfSome, IsSomeAnd, option_and_then, option_to_list}
use Rattle.std.specs.List.{AllByRecursion, flat_map}
use Rattle.std.specs.Option.{option_map_or}
use Rattle.imsg_frame.specs.Message.{spelling_of}
use Rattle.imsg_frame.specs.Cut.{IsPartialFront, IsBadFront}
use Rattle.request_catalogue.specs.declared.width.Width.{Width}
use Rattle.request_catalogue.specs.Widths.{frame_max}
use Rattle.outside.specs.declared.act.Act.{Act}
use Rattle.outside.specs.declared.act.Role.{Role}
use Rattle.outside.specs.declared.receiving.Receiving.{Receiving}
use Rattle.policy_model.specs.declared.event.Why.{Why}
use Rattle.policy_model.specs.declared.event.Why.TheVariants as whys
use Rattle.policy_model.specs.declared.event.Decision.{Decision}
use Rattle.policy_model.specs.declared.event.Decision.TheVariants as decisions
use Rattle.policy_model.specs.Asks.{came_by_frame, ends_session, exports}
use Rattle.service_model.specs.Service.{Service}
use Rattle.service_model.specs.Places.{Step}
use Rattle.service_model.specs.Requests.{CameBy}
use Rattle.service_model.specs.Acts.{AreActsOf}
use Rattle.service_model.specs.Answers.{answer_to, answers}

-- what one child had of a session: the steps of its requests, bytes taken, sent, left over and not received, receivings
pub record Part : Type 0 where
  pub role : Role
  pub served : List Step
  -- the request that ended its part, if one did
  pub final : Option Step
  pub taken : List ℕ
  pub sent : List ℕ
  -- what was taken and is no whole frame any more
  pub rest : List ℕ
  -- what the child sent and nobody received
  pub unread : List ℕ
  pub receivings : Option (List Receiving)

-- how a child's part ended: the session ended for a reason, or the user's child is next
pub data PartEnd : Type 0 where
  EndsSession : (why : Why) → PartEnd
  HandsOver : PartEnd

-- all requests of a part, in order
abbrev pub requests_of : Part → List Step
requests_of part = part.served ++ option_to_list part.final

-- the bytes of the messages that brought these steps
abbrev pub step_bytes : Width → List Step → List ℕ
step_bytes width steps = flat_map (λ s. option_map_or (spelling_of width) s.message []) steps

-- a child's request, with the message that brought it and exactly the operations that it calls for
pub record IsRequestStep (service : Service) (step : Step) : Type 0 where
  pub request : came_by_frame step.place.event.ask ≡ true
  pub came : IsSomeAnd step.message (λ message. CameBy service message step.place.event.ask)
  pub acts : AreActsOf service.setup step.place step.message step.acts

-- a child is served on after this step: it neither ends the session nor exports, and its answer is at most one frame
pub record GoesOn (service : Service) (exported : List ℕ) (step : Step) : Type 0 where
  pub unended : ends_session step.place.event ≡ false
  pub unexported : exports step.place.event ≡ false
  pub fits : length (answer_to service exported step) ≤ frame_max service.setup.frames

-- why a session ends after a request that ends it: finished, a violation, or a lost decision
abbrev pub why_of : Decision → Why
why_of (decisions.Permit value) = whys.Finished
why_of (decisions.Deny rule detail) = whys.Violation rule
why_of decisions.Lost = whys.LogLost

-- why a session ends without such a request: the child's bytes ended, broke off within a frame, or have a bad header
abbrev pub EndsAlone : Width → Why → List ℕ → List ℕ → Type 0
EndsAlone width whys.ChildEnded rest unread = (rest ≡ []) × (unread ≡ [])
EndsAlone width whys.Truncated rest unread = (rest ≢ []) × (unread ≡ []) × IsPartialFront width (frame_max width) rest
EndsAlone width (whys.BadFrame len) rest unread = IsBadFront width (frame_max width) rest len
EndsAlone width _ rest unread = ⊥

-- how a part ended, unless its link failed: by a request that ends the session, by an EXPORT, or by its bytes
abbrev pub EndsSo : Width → PartEnd → Option Step → List ℕ → List ℕ → Type 0
EndsSo width HandsOver None rest unread = ⊥
EndsSo width HandsOver (Some step) rest unread = exports step.place.event ≡ true
EndsSo width (EndsSession why) None rest unread = EndsAlone width why rest unread
EndsSo width (EndsSession why) (Some step) rest unread =
    (ends_session step.place.event ≡ true) × (why ≡ why_of step.place.event.decision)

-- the last answer was sent whole; if the link failed, at most a first part of it
pub record LastSent (end : PartEnd) (whole sent : List ℕ) : Type 0 where
  pub cut : (n : ℕ) × (sent ≡ take n whole)
  pub all : end ≢ EndsSession whys.LinkFault → sent ≡ whole

-- a receiving was asked of a child when these requests were answered and what else it had taken was no whole frame
pub record IsInOrder (service : Service) (exported : List ℕ) (served : List Step) (taken : List ℕ)
    (receiving : Receiving) : Type 0 where
  pub answered : List Step
  pub later : List Step
  pub served_is : served ≡ answered ++ later
  pub held : List ℕ
  pub partial : IsPartialFront service.setup.frames (frame_max service.setup.frames) held
  pub behind : List ℕ
  pub taken_is : taken ≡ (step_bytes service.setup.frames answered ++ held) ++ behind
  pub had_taken : receiving.taken ≡ length (step_bytes service.setup.frames answered ++ held)
  pub had_sent : receiving.sent ≡ length (answers service exported answered)

-- what one child had of a session: requests, whole answers, the bytes that passed, in which order, and how it ended
pub record IsPart (service : Service) (exported : List ℕ) (end : PartEnd) (part : Part) : Type 0 where
  pub each : AllByRecursion (IsRequestStep service) (requests_of part)
  pub on : AllByRecursion (GoesOn service exported) part.served
  pub taken : part.taken ≡ step_bytes service.setup.frames (requests_of part) ++ part.rest
  pub sent : (n : ℕ) × (part.sent ≡ answers service exported part.served
      ++ take n (answers service exported (option_to_list part.final)))
  pub whole : end ≢ EndsSession whys.LinkFault → part.sent ≡ answers service exported (requests_of part)
  pub in_order : IfSome part.receivings (AllByRecursion (IsInOrder service exported part.served part.taken))
  pub ended : end ≢ EndsSession whys.LinkFault → EndsSo service.setup.frames end part.final part.rest part.unread

-- the body of the message that ended a part: the exported state, where that message was an EXPORT
abbrev pub exported_by : Option Step → List ℕ
exported_by final = option_map_or (λ message. message.body) (option_and_then (λ step. step.message) final) []
