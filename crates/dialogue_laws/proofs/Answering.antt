-- What the monitor answers to a request, and what the child is told by it.
use Rattle.std.proofs.Common.{◌≡◌, ℕ, Bool, true, false, ◌&&◌, ◌||◌, cond, eqb, List, [], Option, Some, None}
use Rattle.std.proofs.Common.{refl, sym, ap, subst, ◌∙◌}
use Rattle.std.specs.Prelude.{filter_map, nat_le, slice_get}
use Rattle.std.specs.Option.{option_map_or}
use Rattle.std.proofs.lemmas.Bool.{false≢true, or_parts}
use Rattle.request_catalogue.specs.declared.kind.Kind.{Kind}
use Rattle.request_catalogue.specs.declared.kind.Kind.TheVariants as kinds
use Rattle.request_catalogue.specs.Kinds.{kind_number}
use Rattle.request_catalogue.specs.Catalogue.{RequestValue, kind_of as kind_of_request}
use Rattle.request_catalogue.specs.Catalogue as requests
use Rattle.request_catalogue.specs.Replies.{AnswerValue, Denied, Device, Done, IsAnswer, reply_of}
use Rattle.imsg_frame.specs.Message.{Message, spelling_of}
use Rattle.imsg_frame.specs.Requests.{request_message}
use Rattle.policy_model.specs.declared.event.Ask.{Ask}
use Rattle.policy_model.specs.declared.event.Ask.TheVariants as asks
use Rattle.policy_model.specs.declared.event.Decision.{Decision}
use Rattle.policy_model.specs.declared.event.Decision.TheVariants.{Deny, Lost, Permit}
use Rattle.policy_model.specs.declared.event.Event.{Event}
use Rattle.policy_model.specs.Asks.{ends_session, exports, is_end, is_kind, is_lost, is_permit, is_violation, kind_of}
use Rattle.policy_model.specs.Asks.{permits_kind, shown_of}
use Rattle.child_protocol.specs.Exchanges.{is_permitted}
use Rattle.child_protocol.specs.Phases.{is_export, is_of}
use Rattle.service_model.specs.Acts.{failed_device}
use Rattle.service_model.specs.Answers.{answer_to, answer_value, done_body, permitted_value, reply_message, reply_to}
use Rattle.service_model.specs.Cases.{reply_bytes}
use Rattle.service_model.specs.Parts.{GoesOn}
use Rattle.service_model.specs.Places.{Step}
use Rattle.service_model.specs.Requests.{Asks}
use Rattle.service_model.specs.Service.{Service}
use Rattle.dialogue_laws.specs.Dialogue.{IsTold}
use Rattle.welcome_laws.proofs.Meeting.{same_answer}

-- ---- the kind of an ask

pub kind_asked : (words : List (List ℕ)) (request : RequestValue) (ask : Ask) → Asks words request ask
    → kind_of ask ≡ Some (kind_of_request request)
kind_asked words requests.Banner ask is = ap kind_of is
kind_asked words (requests.Challenge user) ask is = ap kind_of is.3
kind_asked words (requests.Reply text) ask is = ap kind_of is.3
kind_asked words requests.Abandon ask is = ap kind_of is
kind_asked words (requests.Export state) ask is = ap kind_of is
kind_asked words requests.Import ask is = ap kind_of is
kind_asked words (requests.ReadAt handle offset max) ask is = ap kind_of is
kind_asked words (requests.WriteAt handle offset bytes) ask is = ap kind_of is
kind_asked words (requests.OpenFile mode name) ask is = ap kind_of is.2
kind_asked words (requests.CloseFile handle) ask is = ap kind_of is
kind_asked words (requests.Info number) ask is = ap kind_of is
kind_asked words (requests.Note text) ask is = ap kind_of is.2
kind_asked words requests.Finish ask is = ap kind_of is

is_left : (request : RequestValue) → is_of kinds.Export request ≡ true → is_export request ≡ true
is_left (requests.Export state) is = refl
is_left request is = absurd cc

and_first : (a b : Bool) → (a && b) ≡ true → a ≡ true
and_first true b is = refl
and_first false b is = is

and_second : (a b : Bool) → (a && b) ≡ true → b ≡ true
and_second true b is = is
and_second false b is = absurd cc

-- an EXPORT is asked by one
pub export_asked : (request : RequestValue) (e : Event) → kind_of e.ask ≡ Some (kind_of_request request)
    → exports e ≡ true → is_export request ≡ true
export_asked request e kind exported =
    is_left request (sym (ap (λ (k : Option Kind). eqb (option_map_or kind_number k 0) (kind_number kinds.Export)) kind)
    ∙ and_first (is_kind kinds.Export e.ask) (is_permit e.decision) exported)

pub export_permitted : (e : Event) → exports e ≡ true → is_permit e.decision ≡ true
export_permitted e exported = and_second (is_kind kinds.Export e.ask) (is_permit e.decision) exported

-- a decision after which a child is served on wasn't lost
pub kept_on : (e : Event) → ends_session e ≡ false → is_lost e.decision ≡ false
kept_on e going =
    (or_parts (is_end e.ask || permits_kind kinds.Finish e || is_violation e.decision) (is_lost e.decision) going).1

-- ---- the monitor's answer

-- a request was answered by its decision, as it is shown
pub record Answered (service : Service) (exported : List ℕ) (session : ℕ) (request : RequestValue) (step : Step)
    : Type 0 where
  pub value : AnswerValue
  pub told : IsTold (shown_of step.place.event.decision) value
  pub sent : answer_to service exported step ≡ spelling_of service.setup.frames
      (reply_message (request_message request) session value)

shown_denial : (rule detail : ℕ) → (r : ℕ) × (d : ℕ) × (shown_of (Deny rule detail) ≡ Deny r d)
shown_denial rule detail = by (nat_le 13 rule && nat_le rule 16) where
  by : (b : Bool) → (r : ℕ) × (d : ℕ) × (cond b (Deny 16 0) (Deny rule detail) ≡ Deny r d)
  by true = (16, 0, refl)
  by false = (rule, detail, refl)

permitted_told : (failed : Option ℕ) (body : List ℕ) → is_permitted (option_map_or Device failed (Done body)) ≡ true
permitted_told None body = refl
permitted_told (Some device) body = refl

pub answered_on : (service : Service) (exported : List ℕ) (session : ℕ) (request : RequestValue) (step : Step)
    → step.message ≡ Some (request_message request) → step.place.event.session ≡ session
    → GoesOn service exported step
    → Answered service exported session request step
unfolding reply_to
answered_on service exported session request step message own goes = by_decision e.decision refl where
  e : Event
  e = step.place.event

  valued : (d : Decision) (value : AnswerValue) → shown_of e.decision ≡ d
      → answer_value service exported step.place step.acts d ≡ Some value → IsTold d value
      → Answered service exported session request step
  valued d value shown is told = record {
    value = value;
    told = subst (λ x. IsTold x value) (sym shown) told;
    sent = ap (λ (o : Option Message). option_map_or (λ m. reply_to service exported m step.place step.acts) o [])
        message ∙ ap (λ (x : Decision). reply_bytes service.setup.frames (request_message request) e.session
        (answer_value service exported step.place step.acts x)) shown
        ∙ ap (reply_bytes service.setup.frames (request_message request) e.session) is
        ∙ ap (λ n. spelling_of service.setup.frames (reply_message (request_message request) n value)) own;
  }

  answer : Ask → ℕ → AnswerValue
  answer ask value =
      option_map_or Device (slice_get (filter_map failed_device step.acts) 0)
      (Done (done_body service exported step.place step.acts ask value))

  exported_so : (len value : ℕ) → e.ask ≡ asks.Export len → e.decision ≡ Permit value → exports e ≡ true
  exported_so len value ask permit =
      ap (λ a. is_kind kinds.Export a && is_permit e.decision) ask
      ∙ ap (λ d. is_kind kinds.Export (asks.Export len) && is_permit d) permit

  by_ask : (ask : Ask) (value : ℕ) → e.ask ≡ ask → e.decision ≡ Permit value
      → permitted_value service exported step.place step.acts ask value ≡ Some (answer ask value)
  by_ask (asks.Export len) value ask permit =
      absurd (false≢true (sym goes.unexported ∙ exported_so len value ask permit))
  by_ask ask value is permit = refl

  by_decision : (d : Decision) → e.decision ≡ d → Answered service exported session request step
  by_decision (Permit value) is =
      valued (Permit value) (answer e.ask value) (ap shown_of is) (by_ask e.ask value refl is)
      (permitted_told (slice_get (filter_map failed_device step.acts) 0)
      (done_body service exported step.place step.acts e.ask value))
  by_decision (Deny rule detail) is =
      let shown = shown_denial rule detail in
      valued (Deny shown.0 shown.1) (Denied shown.0 shown.1) (ap shown_of is ∙ shown.2) refl refl
  by_decision Lost is = absurd (false≢true (sym (kept_on e goes.unended) ∙ ap is_lost is))

-- ---- what the child is told

permitted_as : (value answer : AnswerValue) → is_permitted value ≡ true → reply_of value ≡ reply_of answer
    → is_permitted answer ≡ true
unfolding reply_of
permitted_as value (Done body) permitted same = refl
permitted_as value (Device device) permitted same = refl
permitted_as (Done body) (Denied rule detail) permitted same = absurd cc
permitted_as (Device device) (Denied rule detail) permitted same = absurd cc
permitted_as (Denied r d) (Denied rule detail) permitted same = absurd cc

-- an answer that is spelled as the monitor's tells the same
pub told_as : (d : Decision) (value answer : AnswerValue) → IsTold d value
    → ((rule detail : ℕ) → d ≡ Deny rule detail → IsAnswer (Denied rule detail)) → IsAnswer answer
    → reply_of value ≡ reply_of answer → IsTold d answer
told_as (Permit n) value answer told fits is same = permitted_as value answer told same
told_as (Deny rule detail) value answer told fits is same =
    same_answer answer value is (subst IsAnswer (sym told) (fits rule detail refl)) (sym same) ∙ told
told_as Lost value answer told fits is same = told
