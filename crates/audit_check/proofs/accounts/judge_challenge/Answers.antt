use Rattle.std.proofs.Common.{◌∙◌, sym}
use Rattle.audit_check.proofs.KeptLemmas.{challenge_none, challenge_some}
use Rattle.audit_check.proofs.accounts.judge_challenge.Goals as goal

pub returns-in-None : goal.returns-in-None
returns-in-None c = λ events kept. c.challenge_decoy.ensures ∙ challenge_none c.args.setup.now events c.args.session c.args.user.now c.args.now (sym c.find.ensures ∙ c.in-None.is)

pub returns-in-Some : goal.returns-in-Some
returns-in-Some c = λ events kept. c.challenge_by.ensures ∙ challenge_some c.args.setup.now events c.args.session c.args.user.now c.args.now c.in-Some.account c.standing_of.result (sym c.find.ensures ∙ c.in-Some.is) (c.standing_of.ensures events kept)
