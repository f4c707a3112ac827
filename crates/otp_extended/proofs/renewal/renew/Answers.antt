use Rattle.std.proofs.Common.{sym, ap, ◌∙◌}
use Rattle.policy_model.specs.Settings.{Settings}
use Rattle.otp_extended.proofs.RenewalLemmas.{first_fault, no_fault, unknown_user}
use Rattle.otp_extended.proofs.renewal.renew.Goals as goal

pub returns-in_default-clause-renewal : goal.returns-in_default-clause-renewal
returns-in_default-clause-renewal c = unknown_user c.args.setup.now c.args.user.now c.args.response.now (sym c.find.ensures ∙ c.in_default.is)

pub returns-in-Some-fault_of-clause-renewal : goal.returns-in-Some-fault_of-clause-renewal
returns-in-Some-fault_of-clause-renewal c =
    first_fault c.args.setup.now c.args.user.now c.args.response.now c.in-Some.number c.as_slice.result.now c.index-as_slice-number.result c.in-Some-fault_of.fault (sym c.find.ensures ∙ c.in-Some.is) (c.as_slice.ensures ∙ ap (λ (s : Settings). s.accounts) c.parts.ensures.value) c.index-as_slice-number.is (sym c.fault_of.ensures ∙ c.in-Some-fault_of.is)

pub returns-in-None-clause-renewal : goal.returns-in-None-clause-renewal
returns-in-None-clause-renewal c =
    no_fault c.args.setup.now c.args.user.now c.args.response.now c.in-Some.number c.as_slice.result.now c.index-as_slice-number.result c.new_chain_of.result (sym c.find.ensures ∙ c.in-Some.is) (c.as_slice.ensures ∙ ap (λ (s : Settings). s.accounts) c.parts.ensures.value) c.index-as_slice-number.is (sym c.fault_of.ensures ∙ c.in-None.is) c.new_chain_of.ensures.chain
