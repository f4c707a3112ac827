-- Believed: what a session is shown before a login: it depends only on the session's own dialogue.
use Rattle.std.specs.Prelude.{ℕ, ◌≡◌, ◌+◌, Bool, true, false, not, ◌&&◌, List, filter, map, take, Option, Some, None}
use Rattle.std.specs.Prelude.{slice_get}
use Rattle.request_catalogue.specs.declared.kind.Kind.{Kind}
use Rattle.policy_model.specs.declared.event.Ask.{Ask}
use Rattle.policy_model.specs.declared.event.Ask.TheVariants as asks
use Rattle.policy_model.specs.declared.event.Decision.{Decision}
use Rattle.policy_model.specs.declared.event.Decision.TheVariants.{Permit, Deny, Lost}
use Rattle.policy_model.specs.declared.event.Event.{Event}
use Rattle.policy_model.specs.Asks.{accepts, is_challenge, is_end, is_lost, kind_of, opens, shown_of}
use Rattle.policy_model.specs.Journal.{has_event, is_own}
use Rattle.policy_model.specs.Legal.{IsLegal}
use Rattle.policy_model.specs.Settings.{Settings}

-- a decision without its value and its detail
abbrev pub bare : Decision → Decision
bare (Permit value) = Permit 0
bare (Deny rule detail) = Deny rule 0
bare Lost = Lost

-- an ask, without the readings if it is a REPLY
abbrev pub without_readings : Ask → Ask
without_readings (asks.Reply words hex) = asks.Reply None None
without_readings ask = ask

-- what a session was told of an ask: its kind, if it is a request, and whether it was permitted, or the rule
pub record Told : Type 0 where
  pub kind : Option Kind
  pub decision : Decision

-- what a session was told of an event
abbrev pub told_of : Event → Told
told_of e = record { kind = kind_of e.ask; decision = bare (shown_of e.decision) }

-- an event that is neither a permitted opening nor an end
abbrev pub is_between : Event → Bool
is_between e = not (opens e) && not (is_end e.ask)

-- the events of a session between its opening and its end
abbrev pub asks_in : List Event → ℕ → List Event
asks_in journal session = filter (is_own session is_between) journal

-- the dialogue of a session: what it was told of each ask between its opening and its end
abbrev pub told_in : List Event → ℕ → List Told
told_in journal session = map told_of (asks_in journal session)

-- a stranger's ask at this place: its session is open and has no accepted REPLY; it is no CHALLENGE, no end, not lost
pub record IsStrangersAsk (journal : List Event) (place : ℕ) (e : Event) : Type 0 where
  pub stands : slice_get journal place ≡ Some e
  pub opened : has_event (take place journal) e.session opens ≡ true
  pub refused : has_event (take (place + 1) journal) e.session accepts ≡ false
  pub between : is_between e ≡ true
  pub other : is_challenge e.ask ≡ false
  pub kept : is_lost e.decision ≡ false

-- strangers learn nothing: after the same dialogue, the same ask but a CHALLENGE is shown the same under any accounts
pub record ShowsNoAccounts (setup : Settings) (journal : List Event) : Type 0 where
  -- the readings of a reply may differ; dialogues are the same where the kinds of requests and what was told of each
  -- are
  pub alike : (other_setup : Settings) (other : List Event) → other_setup.requests ≡ setup.requests
      → IsLegal other_setup other → (k j : ℕ) (e f : Event) → IsStrangersAsk journal k e → IsStrangersAsk other j f
      → told_in (take k journal) e.session ≡ told_in (take j other) f.session → without_readings e.ask
      ≡ without_readings f.ask → shown_of e.decision ≡ shown_of f.decision
