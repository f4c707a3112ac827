use Rattle.std.proofs.Common.{◌∙◌}
use Rattle.service_reading.proofs.Forms.{has_found}
use Rattle.service_reading.proofs.information.HooksInformation.has.Goals as goal

pub returns : goal.returns
returns g c = c.has.ensures ∙ has_found (λ h. h.key) c.args.number c.args.self.now.list.items
