use Rattle.std.proofs.Common.{◌≤◌, length, arith}
use Rattle.durable_log.proofs.Calls.{calls_told}
use Rattle.durable_log.proofs.memory.MemDisk.calls.Goals as goal

pub returns : goal.returns
returns c =
    let d = c.self.inside in
    let few : c.min.result ≤ length d.calls.items = omega (arith, c.len.ensures, c.min.ensures, d.calls.ok.0) in
    rw (← c.self.view_is) (calls_told d.telling d.first.items d.calls.items c.min.result few)
