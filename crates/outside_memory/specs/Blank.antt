-- Inner: users' files with fixed room, before anything stands in them.
use Rattle.std.specs.Prelude.{◌≡◌, ℕ, ◌<◌, ◌≤◌, List, [], All, length, nat_le, Option, Some, None, if◌then◌else◌}
use Rattle.outside.specs.Link.{Link}
use Rattle.outside_memory.specs.MemStream.{unused_link}

-- the room of a stream that isn't used yet: the cuts that it will go by, and how many bytes it may
-- have to send and be sent
pub record BlankStream : Type 0 where
  pub cuts : List ℕ
  pub input : ℕ
  pub sent : ℕ

-- there are cuts, each of at least one byte, and the two buffers for the input have the room
pub record IsBlank (cuts : List ℕ) (room input spare : ℕ) (told : Option (List ℕ)) : Type 0 where
  pub some_cut : 0 < length cuts
  pub each_cut : All (λ c. 1 ≤ c) cuts
  pub input_room : room ≤ input
  pub spare_room : room ≤ spare
  pub untold : told ≡ Some []

-- what an unused stream with this input tells, where that fits the room
abbrev pub unused_within : ℕ → List ℕ → Option Link
unused_within room input =
    if nat_le (length input) room then Some (unused_link input None) else None

-- the room of so many streams that aren't used yet, all alike: the cuts that they will go by, and how
-- many bytes each may have to send and be sent
pub record BlankStreams : Type 0 where
  pub count : ℕ
  pub cuts : List ℕ
  pub size : ℕ

-- a stream goes by these cuts, and may have so many bytes to send and be sent
pub record IsRoomy (cuts : List ℕ) (size : ℕ) (s : BlankStream) : Type 0 where
  pub same_cuts : s.cuts ≡ cuts
  pub same_input : s.input ≡ size
  pub same_sent : s.sent ≡ size
