-- Believed: what an audit answers of a text.
use Rattle.std.specs.Prelude.{ℕ, ◌≡◌, ◌≢◌, ◌≤◌, ◌<◌, ◌+◌, ◌⊎◌, ◌==◌, List, [], ◌∷◌, ◌++◌, length, take, Ok, Err}
use Rattle.std.specs.List.{position_or_len}
use Rattle.policy_model.specs.declared.event.Event.{Event}
use Rattle.policy_model.specs.declared.ranges.TheConstants.{EVENTS_LIMIT}
use Rattle.policy_model.specs.Settings.{Settings}
use Rattle.policy_laws.specs.Strangers.{without_readings}
use Rattle.decision_log.specs.declared.logged.LineFault.{LineFault}
use Rattle.decision_log.specs.Log.{lines_after}
use Rattle.decision_log.specs.Reading.{line_read}
use Rattle.decision_log.specs.Values.{IsLine, LineValue, line_value}
use Rattle.audit_check.specs.declared.answer.Audit.{Audit}
use Rattle.audit_check.specs.declared.answer.Audit.TheVariants as audits
use Rattle.audit_check.specs.declared.answer.AuditWhy.{AuditWhy}
use Rattle.audit_check.specs.declared.answer.AuditWhy.TheVariants as whys
use Rattle.audit_check.specs.Legal.{IsLegalLog}

-- the first line of a text, with its newline; without one, all of the text
abbrev pub first_line : List ℕ → List ℕ
first_line text = take (position_or_len (λ c. c == 10) text + 1) text

-- a line reads as this event with this number; a reply shows no readings
pub record Says (number : ℕ) (line : List ℕ) (e : Event) : Type 0 where
  pub read : line_read line ≡ Ok (line_value number e)
  pub shown : without_readings e.ask ≡ e.ask

-- a line can say each of these events, the first of which stands after so many
abbrev pub AreSaid : ℕ → List Event → Type 0
AreSaid count [] = Unit {0}
AreSaid count (e ∷ events) =
    IsLine (line_value (count + 1) e) × (without_readings e.ask ≡ e.ask) × AreSaid (count + 1) events

-- a text is the lines of these events, numbered from 1, and they are a legal log
pub record IsLogOf (setup : Settings) (text : List ℕ) (events : List Event) : Type 0 where
  pub spelled : text ≡ lines_after 0 events
  pub legal : IsLegalLog setup events
  pub few : length events ≤ EVENTS_LIMIT
  pub said : AreSaid 0 events

-- a text is a legal log of so many events
pub record IsLegalText (setup : Settings) (text : List ℕ) (count : ℕ) : Type 0 where
  pub events : List Event
  pub log : IsLogOf setup text events
  pub counted : count ≡ length events

-- a line reads, but its number isn't its place
pub record IsMiscounted (line : List ℕ) (place : ℕ) : Type 0 where
  pub value : LineValue
  pub read : line_read line ≡ Ok value
  pub other : value.number ≢ place

-- a line doesn't read
pub record IsUnreadable (line : List ℕ) : Type 0 where
  pub fault : LineFault
  pub read : line_read line ≡ Err fault

-- a line reads with the right number, but its event makes no legal log after those before it
pub record IsIllegal (setup : Settings) (events : List Event) (line : List ℕ) (place : ℕ) : Type 0 where
  pub event : Event
  pub says : Says place line event
  pub illegal : IsLegalLog setup (events ++ event ∷ []) → ⊥

-- what is wrong with a line after these events: beyond the limit, unreadable, another number, or an event that isn't
-- legal there
abbrev pub IsFault : Settings → List Event → List ℕ → AuditWhy → Type 0
IsFault setup events line whys.Text = (length events < EVENTS_LIMIT) × IsUnreadable line
IsFault setup events line whys.Count = (EVENTS_LIMIT ≤ length events) ⊎ IsMiscounted line (length events + 1)
IsFault setup events line whys.Event = (length events < EVENTS_LIMIT) × IsIllegal setup events line (length events + 1)

-- the lines before this one are a legal log, and this one has this fault
pub record IsFirstFault (setup : Settings) (text : List ℕ) (place : ℕ) (why : AuditWhy) : Type 0 where
  pub events : List Event
  pub front : List ℕ
  pub rest : List ℕ
  pub cut : text ≡ front ++ rest
  pub log : IsLogOf setup front events
  pub placed : place ≡ length events + 1
  pub more : 1 ≤ length rest
  pub fault : IsFault setup events (first_line rest) why

-- an audit's answer is right for a text: it is a legal log, or this is its first fault
abbrev pub IsAnswer : Settings → List ℕ → Audit → Type 0
IsAnswer setup text (audits.Yes count) = IsLegalText setup text count
IsAnswer setup text (audits.No place why) = IsFirstFault setup text place why
