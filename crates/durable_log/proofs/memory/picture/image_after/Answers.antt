use Rattle.std.proofs.Common.{sym, subst, take}
use Rattle.durable_log.specs.Disk.{DiskState, settled}
use Rattle.durable_log.specs.MemDisk.{IsPicture, state_after, states_from}
use Rattle.durable_log.proofs.Calls.{states_take}
use Rattle.durable_log.proofs.memory.picture.image_after.Goals as goal

pub loop-call-preserved : goal.loop-call-preserved
loop-call-preserved c =
    let so_far : DiskState = states_from (settled c.args.first.now) (take c.loop-call.call-index c.args.calls.now) in
    let next : IsPicture c.args.fill (state_after so_far c.call-item.result) c.in_ok-picture.picture = c.in_ok-picture.ensures so_far c.loop-call.invariant in
    subst (λ (s : DiskState). IsPicture c.args.fill s c.in_ok-picture.picture) (sym (states_take (settled c.args.first.now) c.args.calls.now c.loop-call.call-index c.call-item.result c.loop-call-test.true (sym c.call-item.is))) next
