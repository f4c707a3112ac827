use Rattle.otp_extended.proofs.OnlyLemmas.{many_plain_only}
use Rattle.otp_extended.proofs.PartLemmas.{not_plain}
use Rattle.otp_extended.proofs.response.read_plain.Goals as goal

pub returns-in-Some-clause-plain : goal.returns-in-Some-clause-plain
returns-in-Some-clause-plain c = not_plain c.args.dictionary.now c.args.form c.args.text.now c.in-Some.field-0.front.now c.in-Some.field-0.rest.now c.in-Some.ensures.cut

pub returns-in-Some-clause-only : goal.returns-in-Some-clause-only
returns-in-Some-clause-only c = λ answer is.
    many_plain_only c.args.dictionary.now c.args.form c.args.text.now c.in-Some.field-0.front.now c.in-Some.field-0.rest.now answer c.in-Some.ensures.cut is
