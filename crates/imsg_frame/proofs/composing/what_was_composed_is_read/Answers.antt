use Rattle.imsg_frame.proofs.Fronts.{reads_back}
use Rattle.imsg_frame.proofs.composing.what_was_composed_is_read.Goals as goal

pub returns : goal.returns
returns c = reads_back
