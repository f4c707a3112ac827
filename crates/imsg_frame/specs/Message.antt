-- Believed: a message, and the one spelling that it has in each width.
use Rattle.std.specs.Prelude.{◌≡◌, ℕ, ◌+◌, ◌<◌, ◌≤◌, ◌^◌, List, ◌++◌, length, map}
use Rattle.std.specs.Int.{w32, to_le_bytes}
use Rattle.request_catalogue.specs.declared.width.Width.{Width}
use Rattle.request_catalogue.specs.declared.width.Width.TheVariants as widths
use Rattle.imsg_frame.specs.declared.header.Header.{Header}
use Rattle.imsg_frame.specs.declared.frame.Frame.{Frame}
use Rattle.imsg_frame.specs.declared.frame.OwnedFrame.{OwnedFrame}
use Rattle.imsg_frame.specs.Fields.{len_bytes, len_limit, flags_limit}

-- a frame as plain values: its header and its body
pub record Message : Type 0 where
  pub header : Header
  pub body : List ℕ

abbrev pub message_of : Frame → Message
message_of frame = record { header = frame.header; body = frame.body.now }

abbrev pub owned_message_of : OwnedFrame → Message
owned_message_of frame = record { header = frame.header; body = frame.body.items }

abbrev pub messages_in : List OwnedFrame → List Message
messages_in frames = map owned_message_of frames

-- the 16 bytes of a header: kind, len and flags, peerid and pid, each with its lowest byte first
unfoldable pub header_bytes : Width → Header → List ℕ
header_bytes width h =
    to_le_bytes w32 h.kind ++ len_bytes width h.len h.flags ++ to_le_bytes w32 h.peerid ++ to_le_bytes w32 h.pid

-- the one spelling of a message in a width: the bytes of its header, and then its body
unfoldable pub spelling_of : Width → Message → List ℕ
spelling_of width message = header_bytes width message.header ++ message.body

-- each number of a header fits into its bytes
pub record FitsFields (width : Width) (header : Header) : Type 0 where
  pub kind : header.kind < 2 ^ 32
  pub len : header.len < len_limit width
  pub flags : header.flags < flags_limit width
  pub peerid : header.peerid < 2 ^ 32
  pub pid : header.pid < 2 ^ 32

-- a message of at most `max` bytes whose header gives its true length
pub record IsMessage (width : Width) (max : ℕ) (message : Message) : Type 0 where
  pub fields : FitsFields width message.header
  pub len : message.header.len ≡ 16 + length message.body
  pub within : message.header.len ≤ max

-- the message of this kind, peer, process and body, with flags 0
abbrev pub composed_of : ℕ → ℕ → ℕ → List ℕ → Message
composed_of kind peerid pid body = record {
  header = record { kind = kind; len = 16 + length body; flags = 0; peerid = peerid; pid = pid };
  body = body;
}

-- the law of the two widths: a narrow message with no flags is a wide one too, and spelled alike
abbrev pub NarrowIsWide : Type 0
NarrowIsWide =
    (max : ℕ) (message : Message) → IsMessage widths.Narrow max message → message.header.flags ≡ 0
    → IsMessage widths.Wide max message × (spelling_of widths.Narrow message ≡ spelling_of widths.Wide message)
