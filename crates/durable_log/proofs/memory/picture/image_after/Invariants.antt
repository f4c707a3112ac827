use Rattle.std.proofs.Common.{take}
use Rattle.durable_log.specs.Disk.{settled}
use Rattle.durable_log.specs.MemDisk.{IsPicture, states_from}
use Rattle.durable_log.proofs.memory.picture.image_after.Given as goal

-- the picture after the calls so far
abbrev pub invariant-loop-call : goal.invariant-loop-call
invariant-loop-call l = IsPicture l.fill (states_from (settled l.first) (take l.call-index l.calls)) l.picture
