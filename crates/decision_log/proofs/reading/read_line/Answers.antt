use Rattle.decision_log.proofs.Lines.{is_found, is_only}
use Rattle.decision_log.proofs.reading.read_line.Goals as goal

pub returns-clause-found : goal.returns-clause-found
returns-clause-found c = is_found c.args.text.now c.line_read.result c.line_read.ensures

pub returns-clause-only : goal.returns-clause-only
returns-clause-only c = is_only c.args.text.now c.line_read.result c.line_read.ensures
