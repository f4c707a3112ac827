-- Believed: replies: what an answer is, and the one spelling of each.
use Rattle.std.specs.Prelude.{ℕ, ◌+◌, ◌^◌, ◌<◌, ◌≤◌, List, [], ◌∷◌, length, Option, Some, None, if◌then◌else◌, nat_le}
use Rattle.std.specs.Prelude.{◌==◌, ◌&&◌}
use Rattle.std.specs.Bool.{then_some}
use Rattle.std.specs.Int.{w32, to_le_bytes}
use Rattle.request_catalogue.specs.declared.width.Width.{Width}
use Rattle.request_catalogue.specs.Widths.{body_max}
use Rattle.request_catalogue.specs.Fields.{number_at}
use Rattle.request_catalogue.specs.declared.answer.Answer.{Answer}
use Rattle.request_catalogue.specs.declared.answer.Answer.TheVariants as answers

-- the kind of the reply to a message: 256 above a kind of 1 to 13 without flags, otherwise 256
abbrev pub reply_kind_of : ℕ → ℕ → ℕ
reply_kind_of kind flags = if flags == 0 && nat_le 1 kind && nat_le kind 13 then kind + 256 else 256

-- an answer: done with a body, denied by a rule with a detail, or the device that failed
pub data AnswerValue : Type 0 where
  Done : (body : List ℕ) → AnswerValue
  Denied : (rule detail : ℕ) → AnswerValue
  Device : (device : ℕ) → AnswerValue

-- what is answered, of an answer in memory
abbrev pub answer_of : Answer → AnswerValue
answer_of (answers.Done body) = Done body.now
answer_of (answers.Denied rule detail) = Denied rule detail
answer_of (answers.Device device) = Device device

-- the numbers of an answer are in their ranges: rules 1 to 22, details of 32 bits, devices 1 and 2
abbrev pub IsAnswer : AnswerValue → Type 0
IsAnswer (Done body) = Unit {0}
IsAnswer (Denied rule detail) = (1 ≤ rule) × (rule ≤ 22) × (detail < 2 ^ 32)
IsAnswer (Device device) = (1 ≤ device) × (device ≤ 2)

-- an answer whose reply, a byte and the body, fits a frame of this width
abbrev pub IsSendable : Width → AnswerValue → Type 0
IsSendable width (Done body) = length body < body_max width
IsSendable width (Denied rule detail) = IsAnswer (Denied rule detail)
IsSendable width (Device device) = IsAnswer (Device device)

-- the one body of a reply with this answer; numbers have their lowest byte first
unfoldable pub reply_of : AnswerValue → List ℕ
reply_of (Done body) = 0 ∷ body
reply_of (Denied rule detail) = 1 ∷ rule ∷ to_le_bytes w32 detail
reply_of (Device device) = 2 ∷ device ∷ []

-- what a denial's rule and detail answer
unfoldable pub denied_by : List ℕ → Option AnswerValue
denied_by [] = None
denied_by (rule ∷ detail) =
    then_some (nat_le 1 rule && nat_le rule 22 && length detail == 4) (Denied rule (number_at w32 0 detail))

-- what a device answers
unfoldable pub failed_by : List ℕ → Option AnswerValue
failed_by [] = None
failed_by (device ∷ rest) = then_some (nat_le 1 device && nat_le device 2 && length rest == 0) (Device device)

-- the table: what a reply answers, if it is one, by its first byte
unfoldable pub answered_by : List ℕ → Option AnswerValue
answered_by [] = None
answered_by (first ∷ rest) =
    if first == 0 then Some (Done rest) else (if first == 1 then denied_by rest else (if first == 2 then failed_by rest
    else None))
