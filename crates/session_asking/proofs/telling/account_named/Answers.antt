use Rattle.std.proofs.Common.{sym, ◌∙◌}
use Rattle.session_asking.proofs.Done.{named_none, named_some}
use Rattle.session_asking.proofs.telling.account_named.Goals as goal

pub returns-in-Some : goal.returns-in-Some
returns-in-Some c = c.account_at.ensures ∙ named_some c.args.setup.now c.args.user.now c.in-Some.number (sym c.find.ensures ∙ c.in-Some.is)

pub returns-in-None : goal.returns-in-None
returns-in-None c = sym (named_none c.args.setup.now c.args.user.now (sym c.find.ensures ∙ c.in-None.is))
