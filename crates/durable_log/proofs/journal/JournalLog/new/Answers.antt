use Rattle.durable_log.proofs.Appends.{fresh, fresh_log}
use Rattle.durable_log.proofs.journal.JournalLog.new.Goals as goal

pub invariant_of-result : goal.invariant_of-result
invariant_of-result g c = rw (c.of-made.ensures, c.new.ensures.gate, c.new.ensures.stopped, c.new.ensures.refused) (fresh_log (g.D.Disk.story c.args.disk) (g.D.Disk.faults c.args.disk) c.requires)

pub returns-clause-keeps : goal.returns-clause-keeps
returns-clause-keeps g c = rw (c.of-made.ensures, c.new.ensures.gate, c.new.ensures.stopped, c.new.ensures.refused) (fresh (g.D.Disk.story c.args.disk) (g.D.Disk.faults c.args.disk) c.requires)
