use Rattle.monitor_server.proofs.Before.{answered_from}
use Rattle.monitor_server.proofs.Touching.{touched_within}
use Rattle.monitor_server.proofs.alone.answer_within.Goals as goal

pub returns-clause-ran : goal.returns-clause-ran
returns-clause-ran g c = answered_from g.F.Files.contents (g.I.Information.forms c.args.information.now) c.args.command c.world.view_is c.sides.view_is c.end_unserved.ensures.world c.end_unserved.ensures.said c.answer-answer.ensures.ran

pub returns-clause-touches : goal.returns-clause-touches
returns-clause-touches g c = touched_within c.args.command g.F.Files.contents c.world.view_is c.sides.view_is c.end_unserved.ensures.world c.answer-answer.ensures.touches
