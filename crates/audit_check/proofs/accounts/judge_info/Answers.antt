use Rattle.std.proofs.Common.{◌∙◌, ap}
use Rattle.policy_model.specs.declared.event.Decision.TheVariants.{Permit}
use Rattle.policy_model.specs.Logins.{verified_user}
use Rattle.policy_model.specs.Cases.{account_named, sequence_of}
use Rattle.audit_check.proofs.OwnEvents.{verified_is}
use Rattle.audit_check.proofs.accounts.judge_info.Goals as goal

pub returns : goal.returns
returns c = λ events kept some.
    ap (λ n. Permit n)
    (c.sequence_of.ensures events kept
    ∙ ap (λ o. sequence_of events (account_named c.args.setup.now o))
    (c.verified_user-user.ensures
    ∙ ap (verified_user c.recent-recent.result.now) (c.open_session.ensures ∙ (c.recent-recent.ensures c.args.setup.now events kept).session)
    ∙ verified_is c.recent-recent.result.now events c.args.worker (c.recent-recent.ensures c.args.setup.now events kept) some))
