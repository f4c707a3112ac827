-- Believed: what a stream reports, and what passes over it.
use Rattle.std.specs.Prelude.{◌≡◌, ℕ, List, [], ◌∷◌, ◌++◌, length, take, Option, Result, Ok, Err}
use Rattle.outside.specs.declared.act.Failed.{Failed}
use Rattle.outside.specs.declared.receiving.Receiving.{Receiving}
use Rattle.outside.specs.Told.{Gains, Goes}

-- what a stream reports: bytes to come, bytes received, bytes sent, and perhaps the receivings that were asked of it
pub record Link : Type 0 where
  pub left : List ℕ
  pub taken : List ℕ
  pub sent : List ℕ
  pub receivings : Option (List Receiving)

-- exactly these bytes were received over a stream, and exactly those were sent
pub record Exchanged (received given : List ℕ) (before after : Link) : Type 0 where
  pub left : before.left ≡ received ++ after.left
  pub taken : after.taken ≡ before.taken ++ received
  pub sent : after.sent ≡ before.sent ++ given

-- a receiving that is asked of a stream now, by how many bytes it has taken and sent until then
abbrev pub receiving_at : Link → Receiving
receiving_at link = record { taken = length link.taken; sent = length link.sent }

-- one receiving was asked of a stream
abbrev pub IsAskedOnce : Link → Link → Type 0
IsAskedOnce before after = Gains before.receivings (receiving_at before ∷ []) after.receivings

-- no receiving was asked of a stream
abbrev pub IsUnasked : Link → Link → Type 0
IsUnasked before after = Gains before.receivings [] after.receivings

-- the bytes that a receiving put to the front of the buffer
abbrev pub received_bytes : Result ℕ Failed → List ℕ → List ℕ
received_bytes (Ok n) buffer = take n buffer
received_bytes (Err _) buffer = []

-- some first part of the bytes was sent, and nothing was received
abbrev pub SendsPart : List ℕ → Option Link → Option Link → Type 0
SendsPart bytes before after = (n : ℕ) × Goes (Exchanged [] (take n bytes)) before after
