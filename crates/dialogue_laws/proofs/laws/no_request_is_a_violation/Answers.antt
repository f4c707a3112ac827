use Rattle.dialogue_laws.proofs.PhaseLaw.{no_violation}
use Rattle.dialogue_laws.proofs.laws.no_request_is_a_violation.Goals as goal

pub returns : goal.returns
returns c = no_violation
