-- Inner: what contracts see of a quiet stream.
use Rattle.std.specs.Prelude.{ℕ, List, Option, None}
use Rattle.outside.specs.declared.act.Role.{Role}
use Rattle.outside.specs.Link.{Link}
use Rattle.outside_memory.specs.MemStream.{link_at}
use Rattle.outside.specs.Told.{told_if}
use Rattle.outside_memory.specs.declared.quiet_stream.QuietStream.{QuietStream}

-- what the stream tells
abbrev pub link_of : QuietStream → Option Link
link_of s = told_if s.output.telling (link_at s.input.bytes.items s.output.bytes.items s.input.taken None)

-- which child it leads to
abbrev pub role_of : QuietStream → Role
role_of s = s.role

-- what a quiet stream has left: the lengths of the pieces in which it gives what is still to come,
-- and the room for bytes sent to it
pub record StreamStock : Type 0 where
  pub cuts : List ℕ
  pub room : ℕ

-- what the stream has left
abbrev pub stream_stock : QuietStream → StreamStock
stream_stock s = record { cuts = s.input.cuts; room = s.output.left }

-- how many faults it had: none
abbrev pub faults_of : QuietStream → ℕ
faults_of s = 0
