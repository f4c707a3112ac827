-- Believed: the frames of a child's requests, and its turns.
use Rattle.std.specs.Prelude.{◌≡◌, ℕ, List, ◌++◌, length, drop, Option, Some, None, Ok}
use Rattle.imsg_frame.specs.Message.{spelling_of}
use Rattle.imsg_frame.specs.Requests.{request_message}
use Rattle.request_catalogue.specs.declared.width.Width.{Width}
use Rattle.request_catalogue.specs.declared.width.Width.TheVariants as widths
use Rattle.request_catalogue.specs.Kinds.{kind_number}
use Rattle.request_catalogue.specs.Catalogue.{RequestValue, kind_of, payload_of}
use Rattle.request_catalogue.specs.Reading.{request_of}
use Rattle.child_protocol.specs.declared.turn.Turn.{Turn}
use Rattle.child_protocol.specs.declared.turn.Turn.TheVariants as turns

-- a child reads and writes narrow frames; as wide ones its requests and their replies would be the same bytes
abbrev pub frame_width : Width
frame_width = widths.Narrow

-- the frame in which a child sends a request
unfoldable pub request_bytes : RequestValue → List ℕ
request_bytes request = spelling_of frame_width (request_message request)

-- the request's frame stands in front of the buffer, and after it what
-- stood there; in either width it is this frame, and
-- read as this request of the catalogue
pub record IsPut (request : RequestValue) (len : ℕ) (old new : List ℕ) : Type 0 where
  pub len_is : len ≡ length (request_bytes request)
  pub out : new ≡ request_bytes request ++ drop len old
  pub alike : (either : Width) → new ≡ spelling_of either (request_message request) ++ drop len old
  pub reads : (either : Width) → request_of either (kind_number (kind_of request)) 0 (payload_of request) ≡ Ok request

-- a turn that asks this, or ends
abbrev pub IsTurn : Option RequestValue → Turn → List ℕ → List ℕ → Type 0
IsTurn (Some request) (turns.Asked len) old new = IsPut request len old new
IsTurn None turns.Ended old new = Unit {0}
IsTurn _ _ old new = ⊥
