use Rattle.policy_laws.proofs.Sequences.{sequence_falls}
use Rattle.policy_laws.proofs.laws.sequence_falls.Goals as goal

pub returns : goal.returns
returns c = λ setup journal legal. sequence_falls setup journal legal
