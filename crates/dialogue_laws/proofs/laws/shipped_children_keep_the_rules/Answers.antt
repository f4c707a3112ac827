use Rattle.dialogue_laws.proofs.Law.{children_keep_rules}
use Rattle.dialogue_laws.proofs.laws.shipped_children_keep_the_rules.Goals as goal

pub returns : goal.returns
returns c = children_keep_rules
