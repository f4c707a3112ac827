use Rattle.std.proofs.Common.{◌≡◌, ◌≤◌, length, sym, ap, subst, Option}
use Rattle.std.specs.Prelude.{IfSome}
use Rattle.outside.specs.Told.{told_if}
use Rattle.durable_log.specs.Disk.{Story}
use Rattle.durable_log.specs.MemDisk.{MemDiskParts, begun, story_from}
use Rattle.durable_log.proofs.Calls.{part_told, within_wrote, wrote_told}
use Rattle.durable_log.proofs.memory.MemDiskDisk.write_at.Goals as goal

pub invariant_of-self : goal.invariant_of-self
invariant_of-self c =
    let d = c.self.inside in
    let same : told_if d.telling (story_from (begun d.first.items) d.calls.items) ≡ c.args.self.now.story = ap (λ (p : MemDiskParts). p.story) c.self.view_is in
    within_wrote d.telling c.keep_write.result d.first.items d.calls.items c.keep_write.new.calls.items c.is_ok.result c.args.at c.args.bytes.now c.keep_write.ensures c.self.invariant
    (subst (λ (s : Option Story). IfSome s (λ s. c.args.at ≤ length s.now.reads)) (sym same) c.requires)

pub returns-clause-done : goal.returns-clause-done
returns-clause-done c =
    let d = c.self.inside in
    rw (← c.self.view_is) (wrote_told d.telling c.keep_write.result d.first.items d.calls.items c.keep_write.new.calls.items c.outcome-result.result c.is_ok.result c.args.at c.args.bytes.now c.is_ok.ensures.value c.keep_write.ensures)

pub returns-clause-part : goal.returns-clause-part
returns-clause-part c =
    let d = c.self.inside in
    rw (← c.self.view_is) (part_told d.telling c.keep_write.result d.first.items d.calls.items c.keep_write.new.calls.items c.outcome-result.result c.is_ok.result c.args.at c.args.bytes.now c.is_ok.ensures.value c.keep_write.ensures)
