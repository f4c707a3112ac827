use Rattle.request_catalogue.specs.Texts.{is_label}
use Rattle.decision_log.proofs.Hexes.{hex_in-none, label_few}
use Rattle.decision_log.proofs.readers.label_in.Goals as goal

pub returns-in-None : goal.returns-in-None
returns-in-None c = hex_in-none is_label c.args.digits.now label_few c.in-None.ensures.told
