use Rattle.std.proofs.Common.{subst}
use Rattle.otp_extended.specs.declared.response.Form.{Form}
use Rattle.otp_extended.specs.Responses.{Spells}
use Rattle.otp_extended.proofs.response.password_of.Goals as goal

pub returns-in-Words-clause-only : goal.returns-in-Words-clause-only
returns-in-Words-clause-only c = λ password spelled.
    let six = subst (λ (f : Form). Spells c.args.dictionary.now f c.args.text.now password) c.in-Words.is spelled in
    c.candidates-readings.ensures.only password six.0 six.1
