use Rattle.std.proofs.Common.{length}
use Rattle.policy_model.specs.Journal.{ask_count}
use Rattle.request_catalogue.specs.Widths.{frame_max}
use Rattle.session_asking.specs.Serving.{desk_of, live_of, stand}
use Rattle.session_loop.specs.Child.{IsUnderway, work_left}
use Rattle.session_loop.proofs.child.serve_child.Given as goal

abbrev pub invariant-loop-turn : goal.invariant-loop-turn
invariant-loop-turn g l = record {
  may : g.A.Turns.may l.turns;
  keeps : g.A.Turns.keeps l.fn.turns l.turns;
  underway : IsUnderway
      (stand (g.A.Turns.at l.fn.turns) (desk_of (g.T.Texts.service l.fn.desk.replies.texts.now) l.fn.desk.replies.exported) (live_of l.fn.live.session l.fn.live.user (g.L.LiveChild.role l.fn.live.child) (g.L.LiveChild.link l.fn.live.child) (g.L.LiveChild.faults l.fn.live.child)) (g.P.Post.scene l.fn.post) (g.P.Post.faults l.fn.post))
      (stand (g.A.Turns.at l.turns) (desk_of (g.T.Texts.service l.desk.replies.texts.now) l.desk.replies.exported) (live_of l.live.session l.live.user (g.L.LiveChild.role l.live.child) (g.L.LiveChild.link l.live.child) (g.L.LiveChild.faults l.live.child)) (g.P.Post.scene l.post) (g.P.Post.faults l.post))
      l.fn.desk.reader.bytes l.desk.reader.bytes;
}

-- the asks that are left, and within one of them the bytes that the reader has room for
abbrev pub decreases-loop-turn : goal.decreases-loop-turn
decreases-loop-turn g l =
    let setup = (g.T.Texts.service l.fn.desk.replies.texts.now).setup in
    work_left setup.requests (frame_max setup.frames) (ask_count (g.A.Turns.at l.turns).seen l.fn.live.session) (length l.desk.reader.bytes)
