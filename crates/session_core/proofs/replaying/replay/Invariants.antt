use Rattle.std.proofs.Common.{◌≡◌, length, map, take}
use Rattle.session_core.specs.Replayed.{asked_of, stepped_of}
use Rattle.session_core.specs.Standing.{Stands}
use Rattle.session_core.proofs.replaying.replay.Given as goal

abbrev pub invariant-loop-step : goal.invariant-loop-step
invariant-loop-step l = record {
  setup : l.core.ledger.setup ≡ l.fn.setup;
  cap : l.core.ledger.cap ≡ length l.steps;
  settled : l.core.settled ≡ l.step-index;
  stands : Stands l.core l.events.items;
  asks : map asked_of l.events.items ≡ map stepped_of (take l.step-index l.steps);
}
