use Rattle.std.proofs.Common.{◌∙◌, subst, sym}
use Rattle.session_loop.specs.Sessions.{HasRest}
use Rattle.session_loop.proofs.Overs.{lost_is_free, opened_is_free}
use Rattle.session_loop.proofs.session.run_session.Goals as goal

pub returns-then-is_lost-clause-sitting : goal.returns-then-is_lost-clause-sitting
returns-then-is_lost-clause-sitting g c =
    let service = g.T.Texts.service c.args.desk.now.replies.texts.now in
    (c.open_session-opening.ensures.opens service (sym c.requires.may_open.0)).lost (sym c.is_lost.ensures ∙ c.if-is_lost.true) (g.P.Post.scene c.args.post.now) (g.P.Post.scene c.hang_up.new.self) c.hang_up.ensures.act

pub returns-then-is_lost-clause-free : goal.returns-then-is_lost-clause-free
returns-then-is_lost-clause-free g c =
    let service = g.T.Texts.service c.args.desk.now.replies.texts.now in
    let opening = c.open_session-opening in
    lost_is_free service.setup (g.A.Turns.at c.args.turns.now) (g.A.Turns.at opening.new.turns) (g.P.Post.faults c.args.post.now) (g.P.Post.faults c.hang_up.new.self)
    ((opening.ensures.opens service (sym c.requires.may_open.0)).over (sym c.is_lost.ensures ∙ c.if-is_lost.true)) opening.ensures.rights c.hang_up.ensures.kept

pub serve_opened-requires-clause-served : goal.serve_opened-requires-clause-served
serve_opened-requires-clause-served g c κs within =
    let service = g.T.Texts.service c.args.desk.now.replies.texts.now in
    let opening = c.open_session-opening in
    record {
      one = opening.ensures.turns.1 ∙ c.requires.may_open.0;
      served = (opening.ensures.opens service (sym c.requires.may_open.0)).served (sym c.is_lost.ensures ∙ c.if-is_lost.false);
    }

pub returns-clause-sitting : goal.returns-clause-sitting
returns-clause-sitting g c =
    let service = g.T.Texts.service c.args.desk.now.replies.texts.now in
    let served = c.serve_opened in
    let opening = c.open_session-opening in
    let seen = (g.A.Turns.at opening.new.turns).seen in
    let last = (g.A.Turns.at served.new.turns).seen in
    (opening.ensures.opens service (sym c.requires.may_open.0)).sat (sym c.is_lost.ensures ∙ c.if-is_lost.false) served.result last (g.P.Post.scene c.args.post.now) (g.P.Post.scene served.new.post)
    (subst (λ n. HasRest service opening.result.session n served.result seen last (g.P.Post.scene c.args.post.now) (g.P.Post.scene served.new.post)) opening.ensures.rights.worker served.ensures.rest)

pub returns-clause-free : goal.returns-clause-free
returns-clause-free g c =
    let service = g.T.Texts.service c.args.desk.now.replies.texts.now in
    let served = c.serve_opened in
    let opening = c.open_session-opening in
    opened_is_free service.setup opening.result.session served.result (g.A.Turns.at c.args.turns.now) (g.A.Turns.at opening.new.turns) (g.A.Turns.at served.new.turns) (g.P.Post.faults c.args.post.now) (g.P.Post.faults served.new.post) opening.ensures.rights
    ((opening.ensures.opens service (sym c.requires.may_open.0)).asks (sym c.is_lost.ensures ∙ c.if-is_lost.false)) served.ensures.over
