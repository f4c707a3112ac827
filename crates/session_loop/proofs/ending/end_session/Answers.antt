use Rattle.session_loop.proofs.EndLemmas.{ends_open, is_over}
use Rattle.session_loop.proofs.ending.end_session.Goals as goal

pub returns-clause-ended : goal.returns-clause-ended
returns-clause-ended g c =
    let seat = g.A.Turns.at c.args.turns.now in
    let last = g.A.Turns.at c.ask-end.new.self in (
      ends_open seat.setup seat.rights.worker c.args.why seat.seen last.seen c.ask-end.result c.ask-end.ensures.joins,
      is_over seat.setup seat.rights c.args.why seat.seen last.seen c.ask-end.result c.requires.open c.ask-end.ensures.joins,
    )
