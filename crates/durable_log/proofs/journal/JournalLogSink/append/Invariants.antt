use Rattle.std.proofs.Common.{length}
use Rattle.durable_log.specs.Journal.{log_parts}
use Rattle.durable_log.proofs.Appends.{InLoop}
use Rattle.durable_log.proofs.journal.JournalLogSink.append.Given as goal

abbrev pub invariant-loop-rest : goal.invariant-loop-rest
invariant-loop-rest g l =
    let log = l.self-inside in
    InLoop l.fn.self l.fn.bytes l.rest (log_parts (g.D.Disk.story log.made.value) (g.D.Disk.story log.disk) log.tail.gate log.tail.stopped (g.D.Disk.faults log.disk) log.tail.refused)

abbrev pub decreases-loop-rest : goal.decreases-loop-rest
decreases-loop-rest g l = length l.rest
