use Rattle.std.proofs.Common.{subst}
use Rattle.session_asking.specs.Serving.{desk_of, live_of, stand}
use Rattle.session_loop.specs.Sessions.{ClosesWith}
use Rattle.session_loop.proofs.Overs.{can_end_part, part_had, part_over}
use Rattle.session_loop.proofs.session.serve_user.Goals as goal

pub serve_child-requires-clause-served : goal.serve_child-requires-clause-served
serve_child-requires-clause-served g c κs within = c.requires.served.serves

pub end_session-requires-clause-open : goal.end_session-requires-clause-open
end_session-requires-clause-open g c =
    let child = c.serve_child in
    let a = (stand (g.A.Turns.at c.args.turns.now) (desk_of (g.T.Texts.service c.args.desk.now.replies.texts.now) c.args.desk.now.replies.exported) (live_of c.args.live.session c.args.live.user (g.P.Child.Stream.role c.args.live.child.child) (g.P.Child.Stream.link c.args.live.child.child) (g.P.Child.Stream.faults c.args.live.child.child)) (g.P.Post.scene c.args.post.now) (g.P.Post.faults c.args.post.now)) in
    let b = (stand (g.A.Turns.at child.new.turns) (desk_of (g.T.Texts.service child.new.desk.replies.texts.now) child.new.desk.replies.exported) (live_of child.new.live.session child.new.live.user (g.P.Child.Stream.role child.new.live.child.child) (g.P.Child.Stream.link child.new.live.child.child) (g.P.Child.Stream.faults child.new.live.child.child)) (g.P.Post.scene child.new.post) (g.P.Post.faults child.new.post)) in
    can_end_part c.in-Ends.why a b c.clear.new.self.bytes c.requires.served.serves c.in-Ends.ensures.done

pub end_session-requires-clause-proper : goal.end_session-requires-clause-proper
end_session-requires-clause-proper g c = c.in-Ends.ensures.done.leaves.ends.proper

pub returns-clause-part : goal.returns-clause-part
returns-clause-part g c =
    let child = c.serve_child in
    let a = (stand (g.A.Turns.at c.args.turns.now) (desk_of (g.T.Texts.service c.args.desk.now.replies.texts.now) c.args.desk.now.replies.exported) (live_of c.args.live.session c.args.live.user (g.P.Child.Stream.role c.args.live.child.child) (g.P.Child.Stream.link c.args.live.child.child) (g.P.Child.Stream.faults c.args.live.child.child)) (g.P.Post.scene c.args.post.now) (g.P.Post.faults c.args.post.now)) in
    let b = (stand (g.A.Turns.at child.new.turns) (desk_of (g.T.Texts.service child.new.desk.replies.texts.now) child.new.desk.replies.exported) (live_of child.new.live.session child.new.live.user (g.P.Child.Stream.role child.new.live.child.child) (g.P.Child.Stream.link child.new.live.child.child) (g.P.Child.Stream.faults child.new.live.child.child)) (g.P.Post.scene child.new.post) (g.P.Post.faults child.new.post)) in
    part_had a.live.child.role c.in-Ends.why a b c.clear.new.self.bytes (g.A.Turns.at c.end_session.new.turns).seen (g.P.Post.scene c.close_user.new.post) c.in-Ends.ensures.done c.clear.ensures.empty c.end_session.ensures.ended.0
    (subst (λ role. ClosesWith role b.live.child.link b.scene (g.P.Post.scene c.close_user.new.post)) child.ensures.done.leaves.stays.role c.close_user.ensures.acts) c.requires.served.child.unused c.requires.served.child.planned

pub returns-clause-over : goal.returns-clause-over
returns-clause-over g c =
    let child = c.serve_child in
    let a = (stand (g.A.Turns.at c.args.turns.now) (desk_of (g.T.Texts.service c.args.desk.now.replies.texts.now) c.args.desk.now.replies.exported) (live_of c.args.live.session c.args.live.user (g.P.Child.Stream.role c.args.live.child.child) (g.P.Child.Stream.link c.args.live.child.child) (g.P.Child.Stream.faults c.args.live.child.child)) (g.P.Post.scene c.args.post.now) (g.P.Post.faults c.args.post.now)) in
    let b = (stand (g.A.Turns.at child.new.turns) (desk_of (g.T.Texts.service child.new.desk.replies.texts.now) child.new.desk.replies.exported) (live_of child.new.live.session child.new.live.user (g.P.Child.Stream.role child.new.live.child.child) (g.P.Child.Stream.link child.new.live.child.child) (g.P.Child.Stream.faults child.new.live.child.child)) (g.P.Post.scene child.new.post) (g.P.Post.faults child.new.post)) in
    part_over c.in-Ends.why a b c.clear.new.self.bytes (g.A.Turns.at c.end_session.new.turns) (g.P.Post.faults c.close_user.new.post) c.requires.served.serves c.in-Ends.ensures.done c.end_session.ensures.ended.1 c.end_session.ensures.rights c.close_user.ensures.counts c.close_user.ensures.kept
