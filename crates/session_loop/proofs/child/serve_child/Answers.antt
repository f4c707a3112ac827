use Rattle.std.proofs.Common.{◌∙◌, sym}
use Rattle.session_asking.specs.Serving.{desk_of, live_of, stand}
use Rattle.session_loop.proofs.Parts.{may_go_on, part_done, underway_none, underway_then}
use Rattle.session_loop.proofs.child.serve_child.Goals as goal

pub loop-turn-init : goal.loop-turn-init
loop-turn-init g c = record {
  may = c.requires.may;
  keeps = g.met.A.Turns.keeps_none c.args.turns.now;
  underway = underway_none
      (stand (g.A.Turns.at c.args.turns.now) (desk_of (g.T.Texts.service c.args.desk.now.replies.texts.now) c.args.desk.now.replies.exported) (live_of c.args.live.now.session c.args.live.now.user (g.L.LiveChild.role c.args.live.now.child) (g.L.LiveChild.link c.args.live.now.child) (g.L.LiveChild.faults c.args.live.now.child)) (g.P.Post.scene c.args.post.now) (g.P.Post.faults c.args.post.now))
      c.args.desk.now.reader.bytes c.requires.served;
}

pub serve_turn-turn-requires-clause-served : goal.serve_turn-turn-requires-clause-served
serve_turn-turn-requires-clause-served g c κs within =
    may_go_on
    (stand (g.A.Turns.at c.args.turns.now) (desk_of (g.T.Texts.service c.args.desk.now.replies.texts.now) c.args.desk.now.replies.exported) (live_of c.args.live.now.session c.args.live.now.user (g.L.LiveChild.role c.args.live.now.child) (g.L.LiveChild.link c.args.live.now.child) (g.L.LiveChild.faults c.args.live.now.child)) (g.P.Post.scene c.args.post.now) (g.P.Post.faults c.args.post.now))
    (stand (g.A.Turns.at c.loop-turn.turns) (desk_of (g.T.Texts.service c.loop-turn.desk.replies.texts.now) c.loop-turn.desk.replies.exported) (live_of c.loop-turn.live.session c.loop-turn.live.user (g.L.LiveChild.role c.loop-turn.live.child) (g.L.LiveChild.link c.loop-turn.live.child) (g.L.LiveChild.faults c.loop-turn.live.child)) (g.P.Post.scene c.loop-turn.post) (g.P.Post.faults c.loop-turn.post))
    c.args.desk.now.reader.bytes c.loop-turn.desk.reader.bytes c.requires.served.one c.loop-turn.invariant.underway

pub returns-then-ends_part-clause-done : goal.returns-then-ends_part-clause-done
returns-then-ends_part-clause-done g c =
    let turn = c.serve_turn-turn in
    part_done
    (stand (g.A.Turns.at c.args.turns.now) (desk_of (g.T.Texts.service c.args.desk.now.replies.texts.now) c.args.desk.now.replies.exported) (live_of c.args.live.now.session c.args.live.now.user (g.L.LiveChild.role c.args.live.now.child) (g.L.LiveChild.link c.args.live.now.child) (g.L.LiveChild.faults c.args.live.now.child)) (g.P.Post.scene c.args.post.now) (g.P.Post.faults c.args.post.now))
    (stand (g.A.Turns.at c.loop-turn.turns) (desk_of (g.T.Texts.service c.loop-turn.desk.replies.texts.now) c.loop-turn.desk.replies.exported) (live_of c.loop-turn.live.session c.loop-turn.live.user (g.L.LiveChild.role c.loop-turn.live.child) (g.L.LiveChild.link c.loop-turn.live.child) (g.L.LiveChild.faults c.loop-turn.live.child)) (g.P.Post.scene c.loop-turn.post) (g.P.Post.faults c.loop-turn.post))
    (stand (g.A.Turns.at turn.new.turns) (desk_of (g.T.Texts.service turn.new.desk.replies.texts.now) turn.new.desk.replies.exported) (live_of turn.new.live.session turn.new.live.user (g.L.LiveChild.role turn.new.live.child) (g.L.LiveChild.link turn.new.live.child) (g.L.LiveChild.faults turn.new.live.child)) (g.P.Post.scene turn.new.post) (g.P.Post.faults turn.new.post))
    c.args.desk.now.reader.bytes c.loop-turn.desk.reader.bytes turn.new.desk.reader.bytes turn.result c.loop-turn.invariant.underway (sym c.ends_part.ensures ∙ c.if-ends_part.true) turn.ensures.done

pub loop-turn-preserved : goal.loop-turn-preserved
loop-turn-preserved g c =
    let turn = c.serve_turn-turn in
    let kept = c.loop-turn.invariant in
    record {
      may = turn.ensures.turns.1;
      keeps = g.met.A.Turns.keeps_then c.args.turns.now c.loop-turn.turns turn.new.turns kept.keeps turn.ensures.turns.0;
      underway = underway_then
          (stand (g.A.Turns.at c.args.turns.now) (desk_of (g.T.Texts.service c.args.desk.now.replies.texts.now) c.args.desk.now.replies.exported) (live_of c.args.live.now.session c.args.live.now.user (g.L.LiveChild.role c.args.live.now.child) (g.L.LiveChild.link c.args.live.now.child) (g.L.LiveChild.faults c.args.live.now.child)) (g.P.Post.scene c.args.post.now) (g.P.Post.faults c.args.post.now))
          (stand (g.A.Turns.at c.loop-turn.turns) (desk_of (g.T.Texts.service c.loop-turn.desk.replies.texts.now) c.loop-turn.desk.replies.exported) (live_of c.loop-turn.live.session c.loop-turn.live.user (g.L.LiveChild.role c.loop-turn.live.child) (g.L.LiveChild.link c.loop-turn.live.child) (g.L.LiveChild.faults c.loop-turn.live.child)) (g.P.Post.scene c.loop-turn.post) (g.P.Post.faults c.loop-turn.post))
          (stand (g.A.Turns.at turn.new.turns) (desk_of (g.T.Texts.service turn.new.desk.replies.texts.now) turn.new.desk.replies.exported) (live_of turn.new.live.session turn.new.live.user (g.L.LiveChild.role turn.new.live.child) (g.L.LiveChild.link turn.new.live.child) (g.L.LiveChild.faults turn.new.live.child)) (g.P.Post.scene turn.new.post) (g.P.Post.faults turn.new.post))
          c.args.desk.now.reader.bytes c.loop-turn.desk.reader.bytes turn.new.desk.reader.bytes turn.result kept.underway (sym c.ends_part.ensures ∙ c.if-ends_part.false) turn.ensures.done;
    }
