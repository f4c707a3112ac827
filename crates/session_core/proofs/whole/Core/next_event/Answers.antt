use Rattle.session_core.proofs.StandLemmas.{next_is}
use Rattle.session_core.proofs.whole.Core.next_event.Goals as goal

pub returns : goal.returns
returns c journal st = next_is c.args.self.now journal c.args.worker c.args.ask.now c.event.result st c.requires.worker c.event.ensures
