use Rattle.policy_laws.proofs.Strangers.{strangers_are_told_alike}
use Rattle.policy_laws.proofs.laws.strangers_are_told_alike.Goals as goal

pub returns : goal.returns
returns c = λ setup journal legal. strangers_are_told_alike setup journal legal
