use Rattle.session_turns.proofs.Passes.{places_held}
use Rattle.session_turns.proofs.laws.places_are_of_all.Goals as goal

pub returns : goal.returns
returns c = λ history pass own held. places_held history pass own held
