use Rattle.policy_laws.proofs.Alike.{shows_no_accounts}
use Rattle.policy_laws.proofs.laws.shows_no_accounts.Goals as goal

pub returns : goal.returns
returns c = λ setup journal legal. shows_no_accounts setup journal legal
