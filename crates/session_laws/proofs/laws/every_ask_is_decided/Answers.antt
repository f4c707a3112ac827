use Rattle.session_laws.proofs.NeverLost.{never_lost}
use Rattle.session_laws.proofs.laws.every_ask_is_decided.Goals as goal

pub returns : goal.returns
returns c = λ setup journal worker ask. never_lost setup journal worker ask
