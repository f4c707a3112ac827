use Rattle.session_laws.proofs.PhaseLemmas.{phased_by}
use Rattle.session_laws.proofs.laws.phases_go_on.Goals as goal

pub returns : goal.returns
returns c = λ journal e. phased_by journal e
