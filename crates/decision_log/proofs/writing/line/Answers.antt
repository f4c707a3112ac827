use Rattle.decision_log.proofs.EventLines.{is_read_back}
use Rattle.decision_log.proofs.writing.line.Goals as goal

pub returns-clause-read_back : goal.returns-clause-read_back
returns-clause-read_back c range = is_read_back c.args.number c.args.event.now range c.write_line.result c.write_line.new.out c.args.out.now c.write_line.ensures.len c.write_line.ensures.written
