use Rattle.std.proofs.Common.{◌∙◌, ap, sym}
use Rattle.policy_model.specs.Cases.{account_named, sequence_of}
use Rattle.audit_check.proofs.KeptLemmas.{sequence_none, sequence_some}
use Rattle.audit_check.proofs.accounts.sequence_of.Goals as goal

pub returns-in-None : goal.returns-in-None
returns-in-None c = λ events kept.
    sequence_none c.args.setup.now events c.in-Some.user (sym c.find.ensures ∙ c.in-None.is)
    ∙ ap (λ o. sequence_of events (account_named c.args.setup.now o)) (sym c.in-Some.is)

pub returns-in-Some-find : goal.returns-in-Some-find
returns-in-Some-find c = λ events kept.
    sequence_some c.args.setup.now events c.in-Some.user c.in-Some-find.account c.sequence.result (sym c.find.ensures ∙ c.in-Some-find.is) (c.sequence.ensures events kept)
    ∙ ap (λ o. sequence_of events (account_named c.args.setup.now o)) (sym c.in-Some.is)
