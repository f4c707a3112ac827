-- Inner: what a stream in memory has to send.
use Rattle.std.specs.Prelude.{◌≡◌, ℕ, ◌+◌, ◌≤◌, vec_capacity, vec_len}
use Rattle.outside_memory.specs.declared.input.Input.{Input}
use Rattle.outside_memory.specs.Repeating.{items_after}

-- so many more bytes were given, as one piece
pub record HasGiven (count : ℕ) (before after : Input) : Type 0 where
  pub bytes : after.bytes ≡ before.bytes
  pub taken : after.taken ≡ before.taken + count
  pub cuts : after.cuts ≡ items_after before.cuts
  pub spare : after.spare ≡ before.spare

-- the room for what is left once the stream is closed was taken beforehand
abbrev pub HasItsSpare : Input → Type 0
HasItsSpare input = vec_len input.bytes ≤ vec_capacity input.spare
