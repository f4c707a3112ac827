use Rattle.policy_laws.proofs.Replies.{no_password_twice}
use Rattle.policy_laws.proofs.laws.no_password_twice.Goals as goal

pub returns : goal.returns
returns c = λ setup journal legal. no_password_twice setup journal legal
