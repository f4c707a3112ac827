use Rattle.imsg_frame.proofs.Spelling.{narrow_is_wide}
use Rattle.imsg_frame.proofs.composing.a_narrow_frame_is_a_wide_one.Goals as goal

pub returns : goal.returns
returns c = narrow_is_wide
