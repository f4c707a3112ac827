use Rattle.service_model.proofs.Answered.{all_answered}
use Rattle.service_model.proofs.children_are_answered.Goals as goal

pub returns : goal.returns
returns c = all_answered
