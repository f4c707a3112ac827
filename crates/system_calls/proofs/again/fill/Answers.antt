use Rattle.std.proofs.Common.{◌≤◌, arith, length, take}
use Rattle.std.proofs.lemmas.Grind.{common_steps}
use Rattle.system_calls.proofs.Readings.{Consumes-then, take-joined}
use Rattle.system_calls.proofs.again.fill.Goals as goal

-- what was read joins what stands before it in the buffer
pub loop-filled-preserved : goal.loop-filled-preserved
loop-filled-preserved g c =
    let filled = c.loop-filled.filled in
    let n = c.in_ok-n.n in
    let buf = c.loop-filled.buf in
    let part = c.read_again.new.buf in
    let short : n ≤ length part = grind arith in
    (grind (arith, common_steps), rw (take-joined filled n buf part _ c.loop-filled.invariant.0 short) (Consumes-then (g.R.Read.remaining c.args.reader.now) (g.R.Read.remaining c.loop-filled.reader) (g.R.Read.remaining c.read_again.new.reader) (take filled buf) (take n part) c.loop-filled.invariant.1 c.in_ok-n.ensures.bytes))
