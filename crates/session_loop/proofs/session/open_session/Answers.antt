use Rattle.std.proofs.Common.{subst, sym}
use Rattle.session_turns.specs.Joins.{Joins}
use Rattle.session_loop.specs.Sessions.{MayOpen}
use Rattle.policy_model.specs.declared.event.Ask.TheVariants.{Begin}
use Rattle.session_loop.proofs.OpeningLemmas.{opens}
use Rattle.session_loop.proofs.session.open_session.Goals as goal

pub returns-clause-opens : goal.returns-clause-opens
returns-clause-opens g c = λ service same.
    let seat = g.A.Turns.at c.args.turns.now in
    let last = g.A.Turns.at c.ask.new.self in
    opens service seat.rights last.rights seat.seen last.seen c.ask.result (subst (λ s. MayOpen s seat.rights seat.seen) (sym same) c.requires.may_open) (subst (λ s. Joins s seat.rights.worker Begin seat.seen last.seen c.ask.result) (sym same) c.ask.ensures.joins) c.ask.ensures.rights
