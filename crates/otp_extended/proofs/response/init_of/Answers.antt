use Rattle.otp_extended.proofs.OnlyLemmas.{init_only, no_params_only, same_some}
use Rattle.otp_extended.proofs.response.init_of.Goals as goal

pub returns-in_default-read_params-clause-only : goal.returns-in_default-read_params-clause-only
returns-in_default-read_params-clause-only c = λ answer is.
    no_params_only c.args.dictionary.now c.args.form c.args.parts.current.now c.args.parts.params.now c.args.parts.new.now c.in-Some.current answer c.in-Some.ensures.found c.in_default-read_params.ensures.only is

pub returns-clause-only : goal.returns-clause-only
returns-clause-only c = λ answer is.
    init_only c.args.dictionary.now c.args.form c.args.parts.current.now c.args.parts.params.now c.args.parts.new.now c.in-Some.current c.in-Some-password_of.password c.in-Some-read_params.params answer (c.in-Some.ensures.found, c.in-Some-read_params.ensures.found, c.in-Some-password_of.ensures.found) (λ p spelled. same_some c.in-Some.current p (c.in-Some.ensures.only p spelled)) c.in-Some-read_params.ensures.only (λ p spelled. same_some c.in-Some-password_of.password p (c.in-Some-password_of.ensures.only p spelled)) is
