use Rattle.session_laws.proofs.HandleLaws.{handles_go_on}
use Rattle.session_laws.proofs.laws.handles_go_on.Goals as goal

pub returns : goal.returns
returns c = λ journal e. handles_go_on journal e
