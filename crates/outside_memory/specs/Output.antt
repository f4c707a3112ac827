-- Inner: what a sink of bytes in memory tells.
use Rattle.std.specs.Prelude.{ℕ, ◌+◌, ◌≤◌, List, Option, vec_capacity, vec_len}
use Rattle.outside_memory.specs.declared.output.Output.{Output}
use Rattle.outside.specs.Told.{told_if}

-- the bytes that went out, if they are told
abbrev pub told_bytes : Output → Option (List ℕ)
told_bytes o = told_if o.telling o.bytes.items

-- the room for all bytes that are still told was taken beforehand
abbrev pub HasItsRoom : Output → Type 0
HasItsRoom o = vec_len o.bytes + o.left ≤ vec_capacity o.bytes
