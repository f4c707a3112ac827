use Rattle.std.proofs.Common.{◌≡◌, ◌∙◌, ◌∷◌, [], Some, ap, subst, refl, Ok, Err}
use Rattle.outside.specs.declared.act.Act.TheVariants.{HangUp}
use Rattle.child_keeper.specs.Starts.{ChangesChild}
use Rattle.child_keeper.specs.Tickets.{event_of, user_role}
use Rattle.policy_model.specs.declared.event.Why.TheVariants.{KeeperFault}
use Rattle.session_asking.specs.declared.live.LoggedIn.{LoggedIn}
use Rattle.session_asking.specs.Made.{exported_bytes}
use Rattle.session_asking.specs.Serving.{whose}
use Rattle.session_loop.specs.Sessions.{HasEnd, HasPart}
use Rattle.session_loop.proofs.EndLemmas.{few_accounts, new_own, served_can_end}
use Rattle.session_loop.proofs.Overs.{over_started, unstarted_over}
use Rattle.session_loop.proofs.session.hand_over.Goals as goal

pub account_of-requires : goal.account_of-requires
account_of-requires g c = record { few = few_accounts (g.T.Texts.service c.args.desk.now.replies.texts.now).setup c.args.handed.event c.setup-setup.ensures.in_range c.requires.served.known }

pub serve_user-requires-clause-served : goal.serve_user-requires-clause-served
serve_user-requires-clause-served g c κs within =
    let service = g.T.Texts.service c.args.desk.now.replies.texts.now in
    let seat = g.A.Turns.at c.args.turns.now in
    let user : LoggedIn = record { account = c.account_of.result; files = c.none.result } in
    let served = c.requires.served.served user (record { account = c.account_of.ensures; files = c.none.ensures }) in
    let child = c.in-Ok.child.child in
    record {
      serves = record { one = c.requires.served.one; served = served };
      user = refl;
      child = new_own (user_role c.setup-setup.result.now (event_of c.of-ticket.result)) (g.P.Child.Stream.role child) (g.P.Child.Stream.link child) (g.P.Child.Stream.faults child) (g.P.Post.scene c.start_user.new.post) c.in-Ok.ensures.child;
    }

pub end_session-requires-clause-open : goal.end_session-requires-clause-open
end_session-requires-clause-open g c =
    let service = g.T.Texts.service c.args.desk.now.replies.texts.now in
    let seat = g.A.Turns.at c.args.turns.now in
    let user : LoggedIn = record { account = c.account_of.result; files = c.none.result } in
    let served = c.requires.served.served user (record { account = c.account_of.ensures; files = c.none.ensures }) in
    served_can_end service.setup c.args.handed.live.session seat.rights seat.seen (Some user) served seat.setup c.requires.served.one

pub returns-in-Err-clause-over : goal.returns-in-Err-clause-over
returns-in-Err-clause-over g c =
    let service = g.T.Texts.service c.args.desk.now.replies.texts.now in
    let seat = g.A.Turns.at c.args.turns.now in
    let user : LoggedIn = record { account = c.account_of.result; files = c.none.result } in
    let served = c.requires.served.served user (record { account = c.account_of.ensures; files = c.none.ensures }) in
    unstarted_over service.setup c.args.handed.live.session (Some user) seat (g.A.Turns.at c.end_session.new.turns) (g.P.Post.faults c.args.post.now) (g.P.Post.faults c.start_user.new.post) (g.P.Post.faults c.hang_up.new.self) c.requires.served.one served c.end_session.ensures.ended.1 c.end_session.ensures.rights c.in-Err.ensures.counts.others.keeper c.start_user.ensures.kept c.hang_up.ensures.kept

pub returns-in-Ok-clause-over : goal.returns-in-Ok-clause-over
returns-in-Ok-clause-over g c =
    let service = g.T.Texts.service c.args.desk.now.replies.texts.now in
    let ended = c.serve_user in
    over_started service.setup c.args.handed.live.session ended.result (g.A.Turns.at c.args.turns.now) (g.A.Turns.at ended.new.turns) (g.P.Post.faults c.args.post.now) (g.P.Post.faults c.start_user.new.post) (g.P.Post.faults ended.new.post) c.start_user.ensures.kept ended.ensures.over

pub returns-in-Ok-clause-second : goal.returns-in-Ok-clause-second
returns-in-Ok-clause-second g c =
    let service = g.T.Texts.service c.args.desk.now.replies.texts.now in
    let seat = g.A.Turns.at c.args.turns.now in
    let scene = g.P.Post.scene in
    let pre = c.args.handed.live.child.child in
    let w = whose service (exported_bytes c.args.desk.now.replies.exported) c.args.handed.live.session seat.rights.worker in
    let ended = c.serve_user in
    let user_is : user_role c.setup-setup.result.now (event_of c.of-ticket.result) ≡ user_role service.setup c.args.handed.event = ap (λ s. user_role s (event_of c.of-ticket.result)) c.setup-setup.ensures.value ∙ ap (user_role service.setup) c.of-ticket.ensures in
    let same : g.P.Child.Stream.role c.in-Ok.child.child ≡ user_role service.setup c.args.handed.event = c.in-Ok.ensures.child.right ∙ user_is in
    record {
      outcome = Ok tt;
      mid = scene c.start_user.new.post;
      change = subst (λ role. ChangesChild (g.P.Child.Stream.role pre) (g.P.Child.Stream.link pre) role (Ok tt) (scene c.args.post.now) (scene c.start_user.new.post)) user_is c.in-Ok.ensures.acts;
      rest = subst (λ role. HasPart w role ended.result seat.seen (g.A.Turns.at ended.new.turns).seen (scene c.start_user.new.post) (scene ended.new.post)) same ended.ensures.part;
    }

pub returns-in-Err-clause-second : goal.returns-in-Err-clause-second
returns-in-Err-clause-second g c =
    let service = g.T.Texts.service c.args.desk.now.replies.texts.now in
    let seat = g.A.Turns.at c.args.turns.now in
    let user : LoggedIn = record { account = c.account_of.result; files = c.none.result } in
    let served = c.requires.served.served user (record { account = c.account_of.ensures; files = c.none.ensures }) in
    let scene = g.P.Post.scene in
    let pre = c.args.handed.live.child.child in
    let new = (g.A.Turns.at c.end_session.new.turns).seen in
    let user_is : user_role c.setup-setup.result.now (event_of c.of-ticket.result) ≡ user_role service.setup c.args.handed.event = ap (λ s. user_role s (event_of c.of-ticket.result)) c.setup-setup.ensures.value ∙ ap (user_role service.setup) c.of-ticket.ensures in
    record {
      outcome = Err (record {});
      mid = scene c.start_user.new.post;
      change = subst (λ role. ChangesChild (g.P.Child.Stream.role pre) (g.P.Child.Stream.link pre) role (Err (record {})) (scene c.args.post.now) (scene c.start_user.new.post)) user_is c.in-Err.ensures.acts;
      rest = (refl, subst (λ n. HasEnd n seat.rights.worker (g.P.Child.Stream.role pre) KeeperFault (HangUp ∷ []) seat.seen new) served.serving.opened (c.end_session.ensures.ended.0.by (g.P.Child.Stream.role pre) (HangUp ∷ []) refl), c.hang_up.ensures.act);
    }
