-- Inner: what contracts see of a stream in memory.
use Rattle.std.specs.Prelude.{ℕ, List, [], take, drop, Option, Some}
use Rattle.outside.specs.declared.act.Role.{Role}
use Rattle.outside_memory.specs.declared.fail.CallKind.TheVariants.{Recv, Send}
use Rattle.outside_memory.specs.declared.fail.Fail.{Fail}
use Rattle.outside_memory.specs.declared.stream.MemStream.{MemStream}
use Rattle.outside_memory.specs.Failures.{failure_of}
use Rattle.outside.specs.declared.receiving.Receiving.{Receiving}
use Rattle.outside.specs.Link.{Link}
use Rattle.outside.specs.Told.{next_count, told_if}

-- what a stream that has received so many bytes of its input tells
abbrev pub link_at : List ℕ → List ℕ → ℕ → Option (List Receiving) → Link
link_at input sent received receivings =
    record { left = drop received input; taken = take received input; sent = sent; receivings = receivings }

-- what a stream tells that has these bytes to send, and is asked nothing yet
abbrev pub unused_link : List ℕ → Option (List Receiving) → Link
unused_link input receivings = record { left = input; taken = []; sent = []; receivings = receivings }

-- what the stream tells
abbrev pub link_of : MemStream → Option Link
link_of s =
    told_if s.output.telling (link_at s.input.bytes.items s.output.bytes.items s.input.taken (Some s.receivings))

-- how many faults it had
abbrev pub faults_of : MemStream → ℕ
faults_of s = s.faults

-- which child it leads to
abbrev pub role_of : MemStream → Role
role_of s = s.role

-- what a stream in memory goes by: the calls that are to fail, the lengths of the pieces in which it
-- gives what is left, and how many receivings and sends were asked of it
pub record StreamSchedule : Type 0 where
  pub fails : List Fail
  pub cuts : List ℕ
  pub recvs : ℕ
  pub sends : ℕ

-- what the stream goes by
abbrev pub stream_schedule : MemStream → StreamSchedule
stream_schedule s =
    record { fails = s.fails.items; cuts = s.input.cuts; recvs = s.recvs; sends = s.sends }

-- the failure of the next receiving, if it is to fail
abbrev pub recv_failure : StreamSchedule → Option ℕ
recv_failure s = failure_of s.fails Recv (next_count s.recvs)

-- how many bytes still go out by the next send, if it is to fail
abbrev pub send_failure : StreamSchedule → Option ℕ
send_failure s = failure_of s.fails Send (next_count s.sends)
