use Rattle.std.proofs.Common.{[]}
use Rattle.monitor_server.proofs.Touching.{only_given, touched_from}
use Rattle.monitor_server.proofs.modes.audit_log.Goals as goal

pub returns-clause-touches : goal.returns-clause-touches
returns-clause-touches g c = touched_from g.F.Files.contents c.sides.view_is (only_given [] [] c.run_audit-outcome.ensures.files)
