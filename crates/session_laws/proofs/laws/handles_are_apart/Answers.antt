use Rattle.session_laws.proofs.HandleLaws.{handles_differ, no_handles_before}
use Rattle.session_laws.proofs.laws.handles_are_apart.Goals as goal

pub returns : goal.returns
returns c = λ setup journal legal. record { differ = handles_differ setup journal legal; before = no_handles_before setup journal legal }
