use Rattle.session_turns.proofs.Passes.{new_are}
use Rattle.session_turns.proofs.laws.new_passes_may_ask.Goals as goal

pub returns : goal.returns
returns c = λ setup place passes opened count new. new_are setup place passes opened count new
