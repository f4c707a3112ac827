use Rattle.otp_extended.proofs.PartLemmas.{four_parts}
use Rattle.otp_extended.proofs.response.init_parts.Goals as goal

pub returns-in-Some-cut_at_colon-2-clause-only : goal.returns-in-Some-cut_at_colon-2-clause-only
returns-in-Some-cut_at_colon-2-clause-only c = λ current params new three none.
    four_parts c.args.text.now c.in-Some.current.front.now c.in-Some.current.rest.now c.in-Some-cut_at_colon.params.front.now c.in-Some-cut_at_colon.params.rest.now c.in-Some-cut_at_colon-2.field-0.front.now c.in-Some-cut_at_colon-2.field-0.rest.now current params new c.in-Some.ensures.cut c.in-Some-cut_at_colon.ensures.cut c.in-Some-cut_at_colon-2.ensures.cut three
