use Rattle.std.proofs.Common.{◌∷◌, [], None, refl, subst}
use Rattle.outside.specs.declared.act.Act.TheVariants.{HangUp}
use Rattle.outside.specs.declared.act.Role.TheVariants.{Pre}
use Rattle.policy_model.specs.declared.event.Why.TheVariants.{KeeperFault}
use Rattle.session_loop.specs.Sessions.{HasEnd}
use Rattle.session_loop.proofs.EndLemmas.{served_can_end}
use Rattle.session_loop.proofs.OpeningLemmas.{rest_started, rest_unstarted}
use Rattle.session_loop.proofs.Overs.{over_started, unstarted_over}
use Rattle.session_loop.proofs.session.serve_opened.Goals as goal

pub serve_pre-requires-clause-served : goal.serve_pre-requires-clause-served
serve_pre-requires-clause-served g c κs within = record {
  serves = record { one = c.requires.served.one; served = c.requires.served.served };
  nothing = c.clear.ensures;
  child = c.in-Ok.ensures.child;
}

pub end_session-requires-clause-open : goal.end_session-requires-clause-open
end_session-requires-clause-open g c =
    let seat = g.A.Turns.at c.args.turns.now in
    served_can_end (g.T.Texts.service c.args.desk.now.replies.texts.now).setup c.args.opened.session seat.rights seat.seen None c.requires.served.served seat.setup c.requires.served.one

pub returns-in-Err-clause-over : goal.returns-in-Err-clause-over
returns-in-Err-clause-over g c =
    unstarted_over (g.T.Texts.service c.args.desk.now.replies.texts.now).setup c.args.opened.session None (g.A.Turns.at c.args.turns.now) (g.A.Turns.at c.end_session.new.turns) (g.P.Post.faults c.args.post.now) (g.P.Post.faults c.start_pre.new.post) (g.P.Post.faults c.hang_up.new.self) c.requires.served.one c.requires.served.served c.end_session.ensures.ended.1 c.end_session.ensures.rights c.in-Err.ensures.counts.keeper c.start_pre.ensures.kept c.hang_up.ensures.kept

pub returns-in-Ok-clause-over : goal.returns-in-Ok-clause-over
returns-in-Ok-clause-over g c =
    let ended = c.serve_pre in
    over_started (g.T.Texts.service c.args.desk.now.replies.texts.now).setup c.args.opened.session ended.result (g.A.Turns.at c.args.turns.now) (g.A.Turns.at ended.new.turns) (g.P.Post.faults c.args.post.now) (g.P.Post.faults c.start_pre.new.post) (g.P.Post.faults ended.new.post) c.start_pre.ensures.kept ended.ensures.over

pub returns-in-Ok-clause-rest : goal.returns-in-Ok-clause-rest
returns-in-Ok-clause-rest g c =
    let service = g.T.Texts.service c.args.desk.now.replies.texts.now in
    let served = c.serve_pre in
    let seat = g.A.Turns.at c.args.turns.now in
    rest_started service c.args.opened.session seat.rights.worker served.result seat.seen (g.A.Turns.at served.new.turns).seen (g.P.Post.scene c.args.post.now) (g.P.Post.scene c.start_pre.new.post) (g.P.Post.scene served.new.post) c.in-Ok.ensures.act served.ensures.children

pub returns-in-Err-clause-rest : goal.returns-in-Err-clause-rest
returns-in-Err-clause-rest g c =
    let service = g.T.Texts.service c.args.desk.now.replies.texts.now in
    let seat = g.A.Turns.at c.args.turns.now in
    let worker = seat.rights.worker in
    let session = c.args.opened.session in
    let new = (g.A.Turns.at c.end_session.new.turns).seen in
    rest_unstarted service session worker (record {}) seat.seen new (g.P.Post.scene c.args.post.now) (g.P.Post.scene c.start_pre.new.post) (g.P.Post.scene c.hang_up.new.self) c.in-Err.ensures.act c.hang_up.ensures.act
    (subst (λ n. HasEnd n worker (Pre session) KeeperFault (HangUp ∷ []) seat.seen new) c.requires.served.served.serving.opened (c.end_session.ensures.ended.0.by (Pre session) (HangUp ∷ []) refl))
