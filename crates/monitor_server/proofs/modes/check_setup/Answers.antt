use Rattle.std.proofs.Common.{[]}
use Rattle.monitor_server.proofs.Touching.{reads_given, touched_from}
use Rattle.monitor_server.proofs.modes.check_setup.Goals as goal

pub returns-clause-touches : goal.returns-clause-touches
returns-clause-touches g c = touched_from g.F.Files.contents c.sides.view_is (reads_given [] c.run_check-outcome.ensures.files)
