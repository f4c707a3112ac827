use Rattle.std.proofs.Common.{sym, ◌∙◌}
use Rattle.service_reading.proofs.Forms.{none_found, said_found}
use Rattle.service_reading.proofs.information.HooksInformation.say.Goals as goal

pub returns-then-has : goal.returns-then-has
returns-then-has g c = said_found (λ h. h.key) c.args.number c.args.self.now.list.items c.args.card.now _ (sym c.has.ensures ∙ c.if-has.true) c.say.ensures

pub returns-else-has : goal.returns-else-has
returns-else-has g c = none_found (λ h. h.key) c.args.number c.args.self.now.list.items c.args.card.now (sym c.has.ensures ∙ c.if-has.false)
