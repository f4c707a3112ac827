use Rattle.std.proofs.Common.{◌≡◌, ◌≤◌, List, length, length-take, take, sym, ap, subst, arith, Option}
use Rattle.std.specs.Prelude.{IsSomeAnd}
use Rattle.outside.specs.Told.{told_if}
use Rattle.durable_log.specs.declared.memory.call.DiskCall.{DiskCall}
use Rattle.durable_log.specs.Disk.{Story, moment_of}
use Rattle.durable_log.specs.MemDisk.{MemDiskParts, begun, story_from}
use Rattle.durable_log.proofs.Calls.{few_calls, image_told, left_told}
use Rattle.durable_log.proofs.memory.MemDisk.image.Goals as goal

pub slice_bounds-image_after-end : goal.slice_bounds-image_after-end
slice_bounds-image_after-end c =
    let d = c.self.inside in
    let same : told_if d.telling (story_from (begun d.first.items) d.calls.items) ≡ c.args.self.now.story = ap (λ (p : MemDiskParts). p.story) c.self.view_is in
    let few : c.args.call ≤ length d.calls.items = few_calls d.telling d.first.items d.calls.items c.args.call d.telling (subst (λ (s : Option Story). IsSomeAnd s (λ s. c.args.call ≤ moment_of s)) (sym same) c.requires) in
    omega (arith, few, length-take c.args.call c.deref-2.result.now, ap (λ (l : List DiskCall). length l) c.deref-2.ensures.value)

pub returns-clause-image : goal.returns-clause-image
returns-clause-image c =
    let d = c.self.inside in
    let same : told_if d.telling (story_from (begun d.first.items) d.calls.items) ≡ c.args.self.now.story = ap (λ (p : MemDiskParts). p.story) c.self.view_is in
    let few : c.args.call ≤ length d.calls.items = few_calls d.telling d.first.items d.calls.items c.args.call d.telling (subst (λ (s : Option Story). IsSomeAnd s (λ s. c.args.call ≤ moment_of s)) (sym same) c.requires) in
    rw (← c.self.view_is) (image_told d.telling d.first.items d.calls.items c.args.call c.args.fill c.deref.result.now (take c.args.call c.deref-2.result.now) c.image_after.result c.deref.ensures.value (ap (λ (l : List DiskCall). take c.args.call l) c.deref-2.ensures.value) few c.image_after.ensures)

pub returns-clause-left : goal.returns-clause-left
returns-clause-left c =
    let d = c.self.inside in
    let same : told_if d.telling (story_from (begun d.first.items) d.calls.items) ≡ c.args.self.now.story = ap (λ (p : MemDiskParts). p.story) c.self.view_is in
    let few : c.args.call ≤ length d.calls.items = few_calls d.telling d.first.items d.calls.items c.args.call d.telling (subst (λ (s : Option Story). IsSomeAnd s (λ s. c.args.call ≤ moment_of s)) (sym same) c.requires) in
    rw (← c.self.view_is) (left_told d.telling d.first.items d.calls.items c.args.call c.args.fill c.deref.result.now (take c.args.call c.deref-2.result.now) c.image_after.result c.deref.ensures.value (ap (λ (l : List DiskCall). take c.args.call l) c.deref-2.ensures.value) few c.self.invariant c.image_after.ensures)
