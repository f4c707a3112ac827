-- Inner: what the reader answers, and what it holds then.
use Rattle.std.specs.Prelude.{◌≡◌, ℕ, ◌+◌, ◌<◌, ◌≤◌, ◌^◌, ◌↔◌, List, [], ◌++◌, length, take, drop, ⊤}
use Rattle.std.specs.Borrow.{Fml, MutBor, Array, Lends, u8}
use Rattle.std.specs.List.{refill}
use Rattle.imsg_frame.specs.declared.header.Header.{Header}
use Rattle.imsg_frame.specs.declared.reader.Next.{Next}
use Rattle.imsg_frame.specs.declared.reader.Next.TheVariants as next
use Rattle.imsg_frame.specs.contracts.reader.Reader.{the_row}
use Rattle.request_catalogue.specs.declared.width.Width.{Width}
use Rattle.request_catalogue.specs.Widths.{frame_max}
use Rattle.imsg_frame.specs.Message.{Message, composed_of, spelling_of}
use Rattle.imsg_frame.specs.Cut.{IsWholeFront, IsPartialFront, IsBadFront}
use Rattle.imsg_frame.specs.Held.{Held}

-- the message of a header and a frame's bytes
abbrev pub given_as : Header → List ℕ → Message
given_as header frame = record { header = header; body = drop 16 frame }

-- the answer is a frame, whose bytes were given, with this message
abbrev pub IsFrameOf : Message → List ℕ → Next → Type 0
IsFrameOf message given (next.Frame header) = given_as header given ≡ message
IsFrameOf message given next.NotYet = ⊥
IsFrameOf message given (next.Bad len) = ⊥

-- the answer tells what stands in front, and each answer comes exactly where its cause does
pub record IsAnswer (width : Width) (max : ℕ) (bytes given : List ℕ) (answer : Next) : Type 0 where
  pub frame : (message : Message) → IsFrameOf message given answer ↔ IsWholeFront width max bytes message
  pub not_yet : (answer ≡ next.NotYet) ↔ IsPartialFront width max bytes
  pub bad : (len : ℕ) → (answer ≡ next.Bad len) ↔ IsBadFront width max bytes len

-- the reader gave this message, and holds what follows it
pub record HasGiven (old : Held) (message : Message) (new : Held) : Type 0 where
  pub width : new.width ≡ old.width
  pub max : new.max ≡ old.max
  pub given : new.given ≡ spelling_of old.width message
  pub bytes : old.bytes ≡ spelling_of old.width message ++ new.bytes

-- the frame given last has left, and nothing else has changed
abbrev pub rested : Held → Held
rested old = record { width = old.width; max = old.max; given = []; bytes = old.bytes }

-- after a frame the reader holds what follows it, and else the bytes that it held
abbrev pub AfterNext : Held → Next → Held → Type 0
AfterNext old (next.Frame header) new = HasGiven old (given_as header new.given) new
AfterNext old next.NotYet new = new ≡ rested old
AfterNext old (next.Bad len) new = new ≡ rested old

-- the frame that was given has as many bytes as its header tells
abbrev pub HasLenOf : Next → ℕ → Type 0
HasLenOf (next.Frame header) len = (16 ≤ header.len) × (header.len ≡ len)
HasLenOf next.NotYet len = ⊤
HasLenOf (next.Bad len) given_len = ⊤

-- what a reader becomes where its ring's bytes were written anew
abbrev pub rewritten : Held → List ℕ → Held
rewritten reader bytes =
    let all = refill (length (reader.given ++ reader.bytes)) (reader.given ++ reader.bytes) bytes in
    record {
      width = reader.width;
      max = reader.max;
      given = take (length reader.given) all;
      bytes = drop (length reader.given) all;
    }

-- the ring's bytes are those last written through the reference
abbrev pub LendsRing : MutBor Held → MutBor (List ℕ) → Fml
LendsRing reader bytes = Lends the_row (Array u8 0) reader bytes (rewritten reader.now)

-- of a composed frame and what follows it, next gives that frame, and what follows is held then
abbrev pub ReadsBack : Type 0
ReadsBack =
    (width : Width) (max kind peerid pid : ℕ) (body rest before : List ℕ) (answer : Next) (after : Held)
    → kind < 2 ^ 32 → peerid < 2 ^ 32 → pid < 2 ^ 32 → 16 + length body ≤ max → max ≤ frame_max width
    → IsAnswer width max (spelling_of width (composed_of kind peerid pid body) ++ rest) after.given answer
    → AfterNext (record {
      width = width;
      max = max;
      given = before;
      bytes = spelling_of width (composed_of kind peerid pid body) ++ rest;
    }) answer after
    → IsFrameOf (composed_of kind peerid pid body) after.given answer
    × (after ≡ record {
      width = width;
      max = max;
      given = spelling_of width (composed_of kind peerid pid body);
      bytes = rest;
    })
