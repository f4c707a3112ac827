use Rattle.std.proofs.Common.{unwrap_or, sym, ap, ◌∙◌}
use Rattle.policy_model.proofs.LoginLemmas.{current_password-is}
use Rattle.policy_model.proofs.logins.current_password.Goals as goal

pub returns-in-None : goal.returns-in-None
returns-in-None c =
    ap (λ o. unwrap_or o c.args.account.now.password) c.in-None.ensures ∙ sym (current_password-is c.args.journal.now c.args.account.now)

pub returns-in-Some : goal.returns-in-Some
returns-in-Some c =
    ap (λ o. unwrap_or o c.args.account.now.password) c.in-Some.ensures ∙ sym (current_password-is c.args.journal.now c.args.account.now)
