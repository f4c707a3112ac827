use Rattle.std.proofs.Common.{◌∙◌, subst}
use Rattle.outside.specs.declared.act.Role.TheVariants.{Pre}
use Rattle.session_asking.specs.Serving.{desk_of, live_of, moment_of, stand, whose_of}
use Rattle.session_loop.specs.Sessions.{ClosesWith}
use Rattle.session_loop.proofs.Children.{children_one, children_two, second_same}
use Rattle.session_loop.proofs.Overs.{can_end_part, handed_is_over, may_hand_over, part_had, part_over}
use Rattle.session_loop.proofs.session.serve_pre.Goals as goal

pub serve_child-requires-clause-served : goal.serve_child-requires-clause-served
serve_child-requires-clause-served g c κs within = c.requires.served.serves

pub end_session-requires-clause-open : goal.end_session-requires-clause-open
end_session-requires-clause-open g c =
    let child = c.serve_child in
    let a = (stand (g.A.Turns.at c.args.turns.now) (desk_of (g.T.Texts.service c.args.desk.now.replies.texts.now) c.args.desk.now.replies.exported) (live_of c.args.live.session c.args.live.user (g.P.Child.Stream.role c.args.live.child.child) (g.P.Child.Stream.link c.args.live.child.child) (g.P.Child.Stream.faults c.args.live.child.child)) (g.P.Post.scene c.args.post.now) (g.P.Post.faults c.args.post.now)) in
    let b = (stand (g.A.Turns.at child.new.turns) (desk_of (g.T.Texts.service child.new.desk.replies.texts.now) child.new.desk.replies.exported) (live_of child.new.live.session child.new.live.user (g.P.Child.Stream.role child.new.live.child.child) (g.P.Child.Stream.link child.new.live.child.child) (g.P.Child.Stream.faults child.new.live.child.child)) (g.P.Post.scene child.new.post) (g.P.Post.faults child.new.post)) in
    can_end_part c.in-Ends.why a b c.clear.new.self.bytes c.requires.served.serves c.in-Ends.ensures.done

pub end_session-requires-clause-proper : goal.end_session-requires-clause-proper
end_session-requires-clause-proper g c = c.in-Ends.ensures.done.leaves.ends.proper

pub returns-in-Ends-clause-children : goal.returns-in-Ends-clause-children
returns-in-Ends-clause-children g c =
    let child = c.serve_child in
    let a = (stand (g.A.Turns.at c.args.turns.now) (desk_of (g.T.Texts.service c.args.desk.now.replies.texts.now) c.args.desk.now.replies.exported) (live_of c.args.live.session c.args.live.user (g.P.Child.Stream.role c.args.live.child.child) (g.P.Child.Stream.link c.args.live.child.child) (g.P.Child.Stream.faults c.args.live.child.child)) (g.P.Post.scene c.args.post.now) (g.P.Post.faults c.args.post.now)) in
    let b = (stand (g.A.Turns.at child.new.turns) (desk_of (g.T.Texts.service child.new.desk.replies.texts.now) child.new.desk.replies.exported) (live_of child.new.live.session child.new.live.user (g.P.Child.Stream.role child.new.live.child.child) (g.P.Child.Stream.link child.new.live.child.child) (g.P.Child.Stream.faults child.new.live.child.child)) (g.P.Post.scene child.new.post) (g.P.Post.faults child.new.post)) in
    children_one (whose_of a) c.in-Ends.why a.seat.seen (g.A.Turns.at c.end_session.new.turns).seen a.scene (g.P.Post.scene c.close_pre.new.post) c.requires.served.nothing
    (part_had (Pre a.live.session) c.in-Ends.why a b c.clear.new.self.bytes (g.A.Turns.at c.end_session.new.turns).seen (g.P.Post.scene c.close_pre.new.post) c.in-Ends.ensures.done c.clear.ensures.empty c.end_session.ensures.ended.0
    (subst (λ role. ClosesWith role b.live.child.link b.scene (g.P.Post.scene c.close_pre.new.post)) (child.ensures.done.leaves.stays.role ∙ c.requires.served.child.right) c.close_pre.ensures.acts) c.requires.served.child.unused c.requires.served.child.planned)

pub returns-in-Ends-clause-over : goal.returns-in-Ends-clause-over
returns-in-Ends-clause-over g c =
    let child = c.serve_child in
    let a = (stand (g.A.Turns.at c.args.turns.now) (desk_of (g.T.Texts.service c.args.desk.now.replies.texts.now) c.args.desk.now.replies.exported) (live_of c.args.live.session c.args.live.user (g.P.Child.Stream.role c.args.live.child.child) (g.P.Child.Stream.link c.args.live.child.child) (g.P.Child.Stream.faults c.args.live.child.child)) (g.P.Post.scene c.args.post.now) (g.P.Post.faults c.args.post.now)) in
    let b = (stand (g.A.Turns.at child.new.turns) (desk_of (g.T.Texts.service child.new.desk.replies.texts.now) child.new.desk.replies.exported) (live_of child.new.live.session child.new.live.user (g.P.Child.Stream.role child.new.live.child.child) (g.P.Child.Stream.link child.new.live.child.child) (g.P.Child.Stream.faults child.new.live.child.child)) (g.P.Post.scene child.new.post) (g.P.Post.faults child.new.post)) in
    part_over c.in-Ends.why a b c.clear.new.self.bytes (g.A.Turns.at c.end_session.new.turns) (g.P.Post.faults c.close_pre.new.post) c.requires.served.serves c.in-Ends.ensures.done c.end_session.ensures.ended.1 c.end_session.ensures.rights c.close_pre.ensures.counts c.close_pre.ensures.kept

pub hand_over-requires-clause-served : goal.hand_over-requires-clause-served
hand_over-requires-clause-served g c κs within =
    let child = c.serve_child in
    let a = (stand (g.A.Turns.at c.args.turns.now) (desk_of (g.T.Texts.service c.args.desk.now.replies.texts.now) c.args.desk.now.replies.exported) (live_of c.args.live.session c.args.live.user (g.P.Child.Stream.role c.args.live.child.child) (g.P.Child.Stream.link c.args.live.child.child) (g.P.Child.Stream.faults c.args.live.child.child)) (g.P.Post.scene c.args.post.now) (g.P.Post.faults c.args.post.now)) in
    let b = (stand (g.A.Turns.at child.new.turns) (desk_of (g.T.Texts.service child.new.desk.replies.texts.now) child.new.desk.replies.exported) (live_of child.new.live.session child.new.live.user (g.P.Child.Stream.role child.new.live.child.child) (g.P.Child.Stream.link child.new.live.child.child) (g.P.Child.Stream.faults child.new.live.child.child)) (g.P.Post.scene child.new.post) (g.P.Post.faults child.new.post)) in
    may_hand_over c.in-HandsOver.event a b c.clear.new.self.bytes c.requires.served.serves c.in-HandsOver.ensures.done

pub returns-in-HandsOver-clause-children : goal.returns-in-HandsOver-clause-children
returns-in-HandsOver-clause-children g c =
    let child = c.serve_child in
    let a = (stand (g.A.Turns.at c.args.turns.now) (desk_of (g.T.Texts.service c.args.desk.now.replies.texts.now) c.args.desk.now.replies.exported) (live_of c.args.live.session c.args.live.user (g.P.Child.Stream.role c.args.live.child.child) (g.P.Child.Stream.link c.args.live.child.child) (g.P.Child.Stream.faults c.args.live.child.child)) (g.P.Post.scene c.args.post.now) (g.P.Post.faults c.args.post.now)) in
    let b = (stand (g.A.Turns.at child.new.turns) (desk_of (g.T.Texts.service child.new.desk.replies.texts.now) child.new.desk.replies.exported) (live_of child.new.live.session child.new.live.user (g.P.Child.Stream.role child.new.live.child.child) (g.P.Child.Stream.link child.new.live.child.child) (g.P.Child.Stream.faults child.new.live.child.child)) (g.P.Post.scene child.new.post) (g.P.Post.faults child.new.post)) in
    let handed = c.hand_over in
    let done = c.in-HandsOver.ensures.done in
    let stays = done.leaves.stays in
    let e = c.in-HandsOver.event in
    let last = (g.A.Turns.at handed.new.turns).seen in
    let end = g.P.Post.scene handed.new.post in
    children_two (whose_of a) handed.result e b.desk.exported (moment_of a) (moment_of b) last end c.clear.new.self.bytes c.requires.served.nothing done.taken c.clear.ensures.empty c.requires.served.child.unused c.requires.served.child.planned
    (second_same (whose_of a) b.desk.exported b.desk.service b.live.session b.seat.rights.worker b.live.child.role b.live.child.link e handed.result b.seat.seen last b.scene end
    stays.service stays.session done.leaves.spends.1.worker (stays.role ∙ c.requires.served.child.right) handed.ensures.second)

pub returns-in-HandsOver-clause-over : goal.returns-in-HandsOver-clause-over
returns-in-HandsOver-clause-over g c =
    let child = c.serve_child in
    let a = (stand (g.A.Turns.at c.args.turns.now) (desk_of (g.T.Texts.service c.args.desk.now.replies.texts.now) c.args.desk.now.replies.exported) (live_of c.args.live.session c.args.live.user (g.P.Child.Stream.role c.args.live.child.child) (g.P.Child.Stream.link c.args.live.child.child) (g.P.Child.Stream.faults c.args.live.child.child)) (g.P.Post.scene c.args.post.now) (g.P.Post.faults c.args.post.now)) in
    let b = (stand (g.A.Turns.at child.new.turns) (desk_of (g.T.Texts.service child.new.desk.replies.texts.now) child.new.desk.replies.exported) (live_of child.new.live.session child.new.live.user (g.P.Child.Stream.role child.new.live.child.child) (g.P.Child.Stream.link child.new.live.child.child) (g.P.Child.Stream.faults child.new.live.child.child)) (g.P.Post.scene child.new.post) (g.P.Post.faults child.new.post)) in
    let handed = c.hand_over in
    handed_is_over c.in-HandsOver.event handed.result a b c.clear.new.self.bytes (g.A.Turns.at handed.new.turns) (g.P.Post.faults handed.new.post) c.in-HandsOver.ensures.done handed.ensures.over

pub returns-in-HandsOver-clause-desk : goal.returns-in-HandsOver-clause-desk
returns-in-HandsOver-clause-desk g c = c.hand_over.ensures.desk ∙ c.serve_child.ensures.done.leaves.stays.service

pub returns-in-Ends-clause-desk : goal.returns-in-Ends-clause-desk
returns-in-Ends-clause-desk g c = c.serve_child.ensures.done.leaves.stays.service
