use Rattle.std.proofs.Common.{◌≤◌, arith, length, take}
use Rattle.std.proofs.lemmas.List.{length-take-le}
use Rattle.session_asking.proofs.Framing.{has_header, is_framed}
use Rattle.session_asking.proofs.replies.write_frame.Goals as goal

pub returns-clause-frame : goal.returns-clause-frame
returns-clause-frame c =
    let room : 16 ≤ length c.args.out.now = omega (arith, c.requires.room, has_header c.args.width) in
    is_framed _ _ _ _ _ _ _ (take 16 c.args.out.now) _ _ _ _ c.reply_kind.ensures c.write_reply-len.ensures.len c.write_reply-len.ensures.written (length-take-le 16 c.args.out.now room) c.write.ensures
