-- Inner: a child's dialogue, as the events of its session in a journal have it.
use Rattle.std.specs.Prelude.{ℕ, ◌≡◌, ◌≢◌, true, false, List, [], ◌∷◌, ◌++◌, Some}
use Rattle.child_protocol.specs.Exchanges.{Exchange, is_permitted}
use Rattle.child_protocol.specs.Phases.{is_export, phase_in}
use Rattle.child_protocol.specs.Says.{Role, Pre, User, next_request}
use Rattle.request_catalogue.specs.Catalogue.{RequestValue, kind_of as kind_of_request}
use Rattle.request_catalogue.specs.Replies.{AnswerValue, Denied}
use Rattle.policy_model.specs.declared.event.Decision.{Decision}
use Rattle.policy_model.specs.declared.event.Decision.TheVariants.{Permit, Deny, Lost}
use Rattle.policy_model.specs.declared.event.Event.{Event}
use Rattle.policy_model.specs.Asks.{is_lost, is_violation, kind_of, opens, shown_of}
use Rattle.policy_model.specs.Journal.{events_of, open_session_of}
use Rattle.policy_model.specs.Legal.{IsNext}
use Rattle.policy_model.specs.Phases.{phase_of}
use Rattle.policy_model.specs.Settings.{Settings}

-- what a child is told of a decision, as it is shown: that its request was permitted, also where the outside failed, or
-- the rule of its denial
abbrev pub IsTold : Decision → AnswerValue → Type 0
IsTold (Permit value) answer = is_permitted answer ≡ true
IsTold (Deny rule detail) answer = answer ≡ Denied rule detail
IsTold Lost answer = ⊥

-- an event is of this request, and its decision is what the child was answered
pub record Answers (e : Event) (x : Exchange) : Type 0 where
  pub kind : kind_of e.ask ≡ Some (kind_of_request x.request)
  pub told : IsTold (shown_of e.decision) x.answer

-- events, in their order, are those of a child's exchanges, the latest of which stands first: each request is what the
-- child asks next after the exchanges before it
abbrev pub AreExchanged : Role → List Exchange → List Event → Type 0
AreExchanged role [] events = events ≡ []
AreExchanged role (x ∷ history) events =
    (before : List Event) × (e : Event) × (events ≡ before ++ e ∷ [])
    × (next_request role history ≡ Some x.request) × Answers e x × AreExchanged role history before

-- a session was opened, and its further events are those of the child before the login
pub record HasEarlyDialogue (journal : List Event) (session : ℕ) (history : List Exchange) : Type 0 where
  pub opening : Event
  pub events : List Event
  pub are : events_of journal session ≡ opening ∷ events
  pub opened : opens opening ≡ true
  pub early : AreExchanged Pre history events

-- a session was opened, its child before the login left its state by an EXPORT that was permitted, and its further
-- events are those of the user's child
pub record HasLateDialogue (journal : List Event) (session : ℕ) (role : Role) (history : List Exchange) : Type 0 where
  pub opening : Event
  pub exchange : Exchange
  pub earlier : List Exchange
  pub first : List Event
  pub second : List Event
  pub are : events_of journal session ≡ opening ∷ (first ++ second)
  pub opened : opens opening ≡ true
  pub early : AreExchanged Pre (exchange ∷ earlier) first
  pub left : is_export exchange.request ≡ true
  pub permitted : is_permitted exchange.answer ≡ true
  pub late : AreExchanged role history second

-- the events of a session are those of a child's dialogue so far
abbrev pub HasDialogue : List Event → ℕ → Role → List Exchange → Type 0
HasDialogue journal session Pre history = HasEarlyDialogue journal session history
HasDialogue journal session (User who) history = HasLateDialogue journal session (User who) history

-- the next event of a worker's open session is the request that its child asks next
pub record AsksNext (setup : Settings) (journal : List Event) (worker session : ℕ) (request : RequestValue) (e : Event)
    : Type 0 where
  pub session_is : open_session_of journal worker ≡ session
  pub some : session ≢ 0
  pub next : IsNext setup journal e
  pub own : e.worker ≡ worker
  pub kept : is_lost e.decision ≡ false
  pub kind : kind_of e.ask ≡ Some (kind_of_request request)

-- the session stands in the journal where its child takes it to stand; and its request is denied by no rule of 1 to 7
-- but the first, which says that the session has made all its asks
pub record StandsAlike (setup : Settings) (journal : List Event) (session : ℕ) (role : Role) (history : List Exchange)
    (e : Event) : Type 0 where
  pub phase : phase_of journal session ≡ phase_in role history
  pub mild : is_violation e.decision ≡ true → e.decision ≡ Deny 1 setup.requests
