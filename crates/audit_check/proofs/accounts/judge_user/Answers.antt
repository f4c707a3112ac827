use Rattle.std.proofs.Common.{◌∙◌, sym}
use Rattle.audit_check.proofs.KeptLemmas.{stranger_silent, user_silent}
use Rattle.audit_check.proofs.accounts.judge_user.Goals as goal

pub returns-in-None : goal.returns-in-None
returns-in-None c = λ events kept. stranger_silent c.args.setup.now events c.args.session c.args.user.now kept.legal (sym c.find.ensures ∙ c.in-None.is)

pub returns-in-Some : goal.returns-in-Some
returns-in-Some c = λ events kept.
    c.silent_by.ensures
    ∙ user_silent c.args.setup.now events c.args.session c.args.user.now c.in-Some.account c.index.result.now (sym c.find.ensures ∙ c.in-Some.is)
    (λ account stands. c.index.ensures ∙ kept.holds c.in-Some.account account c.index.result.now stands)
