use Rattle.session_core.proofs.StandLemmas.{begins_idle, next_is, own_next}
use Rattle.session_core.proofs.whole.Core.step.Goals as goal

pub settle-requires-clause-next : goal.settle-requires-clause-next
settle-requires-clause-next c journal st = own_next c.args.self.now journal c.args.step.now.worker c.args.step.now.ask c.event-event.result st c.requires.worker c.event-event.ensures

pub settle-requires-clause-room : goal.settle-requires-clause-room
settle-requires-clause-room c = record {
  few = c.requires.room.few;
  openings = λ h. c.requires.room.openings (begins_idle c.args.self.now c.args.step.now.worker c.args.step.now.ask c.event-event.result c.event-event.ensures h);
}

pub returns-clause-event : goal.returns-clause-event
returns-clause-event c journal st = next_is c.args.self.now journal c.args.step.now.worker c.args.step.now.ask c.event-event.result st c.requires.worker c.event-event.ensures
