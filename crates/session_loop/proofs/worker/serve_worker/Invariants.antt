use Rattle.std.proofs.Common.{◌≡◌, ◌+◌, ◌*◌, ◌≤◌, List, length}
use Rattle.std.specs.List.{AllByRecursion}
use Rattle.service_model.specs.Sittings.{Sitting}
use Rattle.service_model.specs.Stories.{Unasked}
use Rattle.service_model.proofs.Losses.{GoesOnBehind}
use Rattle.session_loop.specs.Sessions.{IsOver}
use Rattle.session_loop.specs.Stories.{EndsCounted, HasSittings}
use Rattle.session_loop.proofs.worker.serve_worker.Given as goal

abbrev pub invariant-loop : goal.invariant-loop
invariant-loop g l =
    let service = g.T.Texts.service l.fn.desk.replies.texts.now in
    let first = g.A.Turns.at l.fn.turns in
    let seat = g.A.Turns.at l.turns in
    record {
      may : g.A.Turns.may l.turns;
      keeps : g.A.Turns.keeps l.fn.turns l.turns;
      setup : seat.setup ≡ first.setup;
      desk : g.T.Texts.service l.desk.replies.texts.now ≡ service;
      over : IsOver service.setup first.rights.worker seat.seen;
      worker : seat.rights.worker ≡ first.rights.worker;
      left : first.rights.left ≤ seat.rights.left + l.counter * (service.setup.requests + 3);
      story : (sittings : List Sitting) × HasSittings service first.rights.worker sittings Unasked first.seen seat.seen (g.P.Post.scene l.fn.post) (g.P.Post.scene l.post)
          × (length sittings ≡ l.counter) × EndsCounted sittings (g.P.Post.faults l.fn.post) (g.P.Post.faults l.post)
          × AllByRecursion GoesOnBehind sittings;
    }
