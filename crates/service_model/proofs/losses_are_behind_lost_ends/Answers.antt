use Rattle.service_model.proofs.Stories.{all_lost_ends}
use Rattle.service_model.proofs.losses_are_behind_lost_ends.Goals as goal

pub returns : goal.returns
returns c = all_lost_ends
