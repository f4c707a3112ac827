use Rattle.durable_log.proofs.Calls.{not_synced_told, synced_told, within_synced}
use Rattle.durable_log.proofs.memory.MemDiskDisk.sync.Goals as goal

pub invariant_of-self : goal.invariant_of-self
invariant_of-self c =
    let d = c.self.inside in
    within_synced d.telling c.keep_sync.result d.first.items d.calls.items c.keep_sync.new.calls.items c.is_ok.result c.keep_sync.ensures c.self.invariant

pub returns-clause-done : goal.returns-clause-done
returns-clause-done c =
    let d = c.self.inside in
    rw (← c.self.view_is) (synced_told d.telling c.keep_sync.result d.first.items d.calls.items c.keep_sync.new.calls.items c.outcome-result.result c.is_ok.result c.is_ok.ensures.value c.keep_sync.ensures)

pub returns-clause-none : goal.returns-clause-none
returns-clause-none c =
    let d = c.self.inside in
    rw (← c.self.view_is) (not_synced_told d.telling c.keep_sync.result d.first.items d.calls.items c.keep_sync.new.calls.items c.outcome-result.result c.is_ok.result c.is_ok.ensures.value c.keep_sync.ensures)
