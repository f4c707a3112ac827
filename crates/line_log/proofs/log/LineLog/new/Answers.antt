use Rattle.std.proofs.Common.{[], sym, ap}
use Rattle.durable_log.specs.Journal.{LogParts}
use Rattle.fixed_list.specs.FixedList.{list_of}
use Rattle.line_log.proofs.Lines.{fresh_lines}
use Rattle.line_log.proofs.log.LineLog.new.Goals as goal

pub invariant_of-result : goal.invariant_of-result
invariant_of-result g c = record {
  flag_is = sym (ap (λ (l : LogParts). l.stopped) c.new-log.ensures.is);
  log = record {
    lines = [];
    answered = 0;
    keeps = fresh_lines (g.D.Disk.story c.args.disk) (g.D.Disk.faults c.args.disk) c.new-log.result c.of-before.result.value (list_of c.of.result) c.new-log.ensures.is c.requires c.new-log.ensures.keeps;
  };
}

pub returns-clause-keeps : goal.returns-clause-keeps
returns-clause-keeps g c = fresh_lines (g.D.Disk.story c.args.disk) (g.D.Disk.faults c.args.disk) c.new-log.result c.of-before.result.value (list_of c.of.result) c.new-log.ensures.is c.requires c.new-log.ensures.keeps
