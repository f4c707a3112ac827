-- Believed: events whose numbers are in the ranges of their types.
use Rattle.std.specs.Prelude.{◌<◌, ◌≤◌, ◌^◌, IsTrue}
use Rattle.request_catalogue.specs.Texts.{is_label, is_name, is_note}
use Rattle.request_catalogue.specs.TextBytes.{label_bytes, name_bytes, note_bytes}
use Rattle.policy_model.specs.declared.event.Ask.{Ask}
use Rattle.policy_model.specs.declared.event.Ask.TheVariants as asks
use Rattle.policy_model.specs.declared.event.Decision.{Decision}
use Rattle.policy_model.specs.declared.event.Decision.TheVariants.{Permit, Deny, Lost}
use Rattle.policy_model.specs.declared.event.Event.{Event}
use Rattle.decision_log.specs.Values.{IsWhy}

-- the numbers of an ask are in the ranges of their types, and its texts and rules in theirs
abbrev pub IsTypedAsk : Ask → Type 0
IsTypedAsk (asks.Challenge user now) = IsTrue (is_name (name_bytes user)) × (now < 2 ^ 64)
IsTypedAsk (asks.Export len) = len < 2 ^ 16
IsTypedAsk (asks.ReadAt handle offset max) = (handle < 2 ^ 32) × (offset < 2 ^ 64) × (max < 2 ^ 16)
IsTypedAsk (asks.WriteAt handle offset len) = (handle < 2 ^ 32) × (offset < 2 ^ 64) × (len < 2 ^ 16)
IsTypedAsk (asks.OpenFile mode name) = (mode < 2 ^ 8) × IsTrue (is_label (label_bytes name))
IsTypedAsk (asks.CloseFile handle) = handle < 2 ^ 32
IsTypedAsk (asks.Info number) = number < 2 ^ 32
IsTypedAsk (asks.Note text) = IsTrue (is_note (note_bytes text))
IsTypedAsk (asks.Bad rule detail) = (2 ≤ rule) × (rule ≤ 5) × (detail < 2 ^ 32)
IsTypedAsk (asks.End why) = IsWhy why
IsTypedAsk _ = Unit {0}

-- the numbers of a decision are in the ranges of their types
abbrev pub IsSmall : Decision → Type 0
IsSmall (Permit value) = value < 2 ^ 64
IsSmall (Deny rule detail) = detail < 2 ^ 32
IsSmall Lost = Unit {0}

-- the numbers of an event are in the ranges of their types
pub record IsTyped (e : Event) : Type 0 where
  pub worker : e.worker < 2 ^ 32
  pub session : e.session < 2 ^ 32
  pub ask : IsTypedAsk e.ask
  pub decision : IsSmall e.decision
