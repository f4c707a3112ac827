-- Believed: what a line of the log says.
use Rattle.std.specs.Prelude.{◌≡◌, ℕ, ◌^◌, ◌<◌, ◌≤◌, List, IsTrue}
use Rattle.request_catalogue.specs.Texts.{is_label, is_name, is_note}
use Rattle.request_catalogue.specs.TextBytes.{label_bytes, name_bytes, note_bytes}
use Rattle.policy_model.specs.declared.event.Ask.{Ask}
use Rattle.policy_model.specs.declared.event.Ask.TheVariants as asks
use Rattle.policy_model.specs.declared.event.Decision.{Decision}
use Rattle.policy_model.specs.declared.event.Decision.TheVariants as decisions
use Rattle.policy_model.specs.declared.event.Event.{Event}
use Rattle.policy_model.specs.declared.event.Why.{Why}
use Rattle.policy_model.specs.declared.event.Why.TheVariants as whys

-- an ask as a line says it: names as bytes, a reply without its readings
pub data AskValue : Type 0 where
  Begin : AskValue
  Banner : AskValue
  Challenge : (user : List ℕ) (now : ℕ) → AskValue
  Reply : AskValue
  Abandon : AskValue
  Export : (len : ℕ) → AskValue
  Import : AskValue
  ReadAt : (handle offset max : ℕ) → AskValue
  WriteAt : (handle offset len : ℕ) → AskValue
  OpenFile : (mode : ℕ) (name : List ℕ) → AskValue
  CloseFile : (handle : ℕ) → AskValue
  Info : (number : ℕ) → AskValue
  Note : (text : List ℕ) → AskValue
  Finish : AskValue
  Bad : (rule detail : ℕ) → AskValue
  End : (why : Why) → AskValue

-- what a line says of an ask, a reply without its readings
abbrev pub ask_value : Ask → AskValue
ask_value asks.Begin = Begin
ask_value asks.Banner = Banner
ask_value (asks.Challenge user now) = Challenge (name_bytes user) now
ask_value (asks.Reply words hex) = Reply
ask_value asks.Abandon = Abandon
ask_value (asks.Export len) = Export len
ask_value asks.Import = Import
ask_value (asks.ReadAt handle offset max) = ReadAt handle offset max
ask_value (asks.WriteAt handle offset len) = WriteAt handle offset len
ask_value (asks.OpenFile mode name) = OpenFile mode (label_bytes name)
ask_value (asks.CloseFile handle) = CloseFile handle
ask_value (asks.Info number) = Info number
ask_value (asks.Note text) = Note (note_bytes text)
ask_value asks.Finish = Finish
ask_value (asks.Bad rule detail) = Bad rule detail
ask_value (asks.End why) = End why

-- what a line says: the event's number, worker, session, ask and decision
pub record LineValue : Type 0 where
  pub number : ℕ
  pub worker : ℕ
  pub session : ℕ
  pub ask : AskValue
  pub decision : Decision

-- what the line of an event says
abbrev pub line_value : ℕ → Event → LineValue
line_value number e =
    record { number = number; worker = e.worker; session = e.session; ask = ask_value e.ask; decision = e.decision }

-- the numbers of a reason are in their ranges: a rule from 1 to 7, a length of 16 bits
abbrev pub IsWhy : Why → Type 0
IsWhy (whys.BadFrame len) = len < 2 ^ 16
IsWhy (whys.Violation rule) = (1 ≤ rule) × (rule ≤ 7)
IsWhy _ = Unit {0}

-- the numbers of an ask are in the ranges of their types, and its rules in theirs
abbrev pub IsAsk : AskValue → Type 0
IsAsk (Challenge user now) = IsTrue (is_name user) × (now < 2 ^ 64)
IsAsk (Export len) = len < 2 ^ 16
IsAsk (ReadAt handle offset max) = (handle < 2 ^ 32) × (offset < 2 ^ 64) × (max < 2 ^ 16)
IsAsk (WriteAt handle offset len) = (handle < 2 ^ 32) × (offset < 2 ^ 64) × (len < 2 ^ 16)
IsAsk (OpenFile mode name) = (mode < 2 ^ 8) × IsTrue (is_label name)
IsAsk (CloseFile handle) = handle < 2 ^ 32
IsAsk (Info number) = number < 2 ^ 32
IsAsk (Note text) = IsTrue (is_note text)
IsAsk (Bad rule detail) = (2 ≤ rule) × (rule ≤ 5) × (detail < 2 ^ 32)
IsAsk (End why) = IsWhy why
IsAsk _ = Unit {0}

-- the value of a permit: 64 bits where the line shows it, an opening's session, and otherwise 0
abbrev pub IsValue : ℕ → AskValue → ℕ → Type 0
IsValue session Begin value = value ≡ session
IsValue session (Challenge user now) value = value < 2 ^ 64
IsValue session Reply value = value < 2 ^ 64
IsValue session (Export len) value = value < 2 ^ 64
IsValue session (OpenFile mode name) value = value < 2 ^ 64
IsValue session (Info number) value = value < 2 ^ 64
IsValue session _ value = value ≡ 0

-- a decision that a line can show: a permit with its value, or a denial, but not a loss
abbrev pub IsShown : ℕ → AskValue → Decision → Type 0
IsShown session ask (decisions.Permit value) = IsValue session ask value
IsShown session ask (decisions.Deny rule detail) = (1 ≤ rule) × (rule ≤ 22) × (detail < 2 ^ 32)
IsShown session ask decisions.Lost = ⊥

-- what a line can say: numbers in their ranges, and a decision that it shows
pub record IsLine (v : LineValue) : Type 0 where
  pub number : v.number < 2 ^ 32
  pub worker : v.worker < 2 ^ 32
  pub session : v.session < 2 ^ 32
  pub ask : IsAsk v.ask
  pub decision : IsShown v.session v.ask v.decision
