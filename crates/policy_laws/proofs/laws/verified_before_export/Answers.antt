use Rattle.policy_laws.proofs.Exports.{verified_before_export}
use Rattle.policy_laws.proofs.laws.verified_before_export.Goals as goal

pub returns : goal.returns
returns c = λ setup journal legal. verified_before_export setup journal legal
