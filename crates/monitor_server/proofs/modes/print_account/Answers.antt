use Rattle.std.proofs.Common.{[]}
use Rattle.setup_reading.proofs.Touching.{touches_none}
use Rattle.monitor_server.proofs.Touching.{touched_from}
use Rattle.monitor_server.proofs.modes.print_account.Goals as goal

pub returns-clause-touches : goal.returns-clause-touches
returns-clause-touches g c = touched_from g.F.Files.contents c.sides.view_is (touches_none [] [] [] _)
