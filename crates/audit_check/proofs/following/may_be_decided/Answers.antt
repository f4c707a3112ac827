use Rattle.std.proofs.Common.{◌∙◌, ap, sym}
use Rattle.policy_model.specs.Journal.{open_session_of}
use Rattle.audit_check.specs.Following.{may_be_denied}
use Rattle.audit_check.specs.Legal.{may_be_decided}
use Rattle.audit_check.proofs.KeptLemmas.{deny_told, open_some, permit_told}
use Rattle.audit_check.proofs.following.may_be_decided.Goals as goal

pub returns-in-Permit : goal.returns-in-Permit
returns-in-Permit c = λ events kept decides.
    c.permits.ensures events kept
    ∙ permit_told c.args.setup.now events (open_session_of events c.args.event.now.worker) c.in-Permit.value c.login_of-taking.result
    (c.login_of-taking.ensures c.args.setup.now events kept (open_some c.args.setup.now events (open_session_of events c.args.event.now.worker) decides))
    ∙ ap (may_be_decided c.args.setup.now events (open_session_of events c.args.event.now.worker)) (sym c.in-Permit.is)

pub returns-in-Deny : goal.returns-in-Deny
returns-in-Deny c = λ events kept decides.
    c.may_be_denied.ensures
    ∙ ap (may_be_denied c.in-Deny.rule c.in-Deny.detail) c.is_decoy.ensures
    ∙ deny_told c.args.setup.now events (open_session_of events c.args.event.now.worker) c.in-Deny.rule c.in-Deny.detail c.login_of-taking.result
    (c.login_of-taking.ensures c.args.setup.now events kept (open_some c.args.setup.now events (open_session_of events c.args.event.now.worker) decides))
    ∙ ap (may_be_decided c.args.setup.now events (open_session_of events c.args.event.now.worker)) (sym c.in-Deny.is)
