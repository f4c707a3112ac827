use Rattle.std.proofs.Common.{◌∙◌, sym}
use Rattle.audit_check.proofs.KeptLemmas.{permits_none, permits_some}
use Rattle.audit_check.proofs.accounts.permits.Goals as goal

pub returns-in-None : goal.returns-in-None
returns-in-None c = λ events kept.
    permits_none c.args.setup.now events c.args.taking.now c.args.password c.in-Some.user (sym c.is_decoy.ensures ∙ c.if-is_decoy.false) (sym c.user_named.ensures ∙ c.in-Some.is) (sym c.find.ensures ∙ c.in-None.is)

pub returns-in-Some-find : goal.returns-in-Some-find
returns-in-Some-find c = λ events kept.
    permits_some c.args.setup.now events c.args.taking.now c.args.password c.in-Some.user c.in-Some-find.account c.is_next.result (sym c.is_decoy.ensures ∙ c.if-is_decoy.false) (sym c.user_named.ensures ∙ c.in-Some.is) (sym c.find.ensures ∙ c.in-Some-find.is) (c.is_next.ensures events kept)
