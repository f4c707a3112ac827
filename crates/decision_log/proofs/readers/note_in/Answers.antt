use Rattle.request_catalogue.specs.Texts.{is_note}
use Rattle.decision_log.proofs.Hexes.{hex_in-none, note_few}
use Rattle.decision_log.proofs.readers.note_in.Goals as goal

pub returns-in-None : goal.returns-in-None
returns-in-None c = hex_in-none is_note c.args.digits.now note_few c.in-None.ensures.told
