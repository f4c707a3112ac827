use Rattle.session_laws.proofs.Openings.{legal_apart, phase_of-zero}
use Rattle.session_laws.proofs.laws.sessions_are_apart.Goals as goal

pub returns : goal.returns
returns c = λ setup journal legal. record { apart = legal_apart setup journal legal; zero = phase_of-zero setup journal legal }
