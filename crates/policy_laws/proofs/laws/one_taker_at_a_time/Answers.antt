use Rattle.policy_laws.proofs.Sequences.{one_taker_at_a_time}
use Rattle.policy_laws.proofs.laws.one_taker_at_a_time.Goals as goal

pub returns : goal.returns
returns c = λ setup journal legal. one_taker_at_a_time setup journal legal
