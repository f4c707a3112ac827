use Rattle.std.proofs.Common.{◌≡◌, ◌∙◌, ap, sym, true}
use Rattle.policy_model.specs.Asks.{accepts}
use Rattle.policy_model.specs.Cases.{user_named}
use Rattle.audit_check.proofs.KeptLemmas.{accepted_open, accepted_user, found_for, nobody_for}
use Rattle.audit_check.proofs.history.History.account_of_reply.Goals as goal

pub returns-in-None-clause-each : goal.returns-in-None-clause-each
returns-in-None-clause-each c = λ events kept next.
    let accepted : accepts c.args.event.now ≡ true = sym c.accepts.ensures ∙ c.if-not-accepts.false in
    nobody_for c.args.setup.now events c.args.event.now accepted
    (accepted_user c.args.setup.now events c.args.event.now next accepted
    ∙ ap user_named (sym (c.login_of.ensures c.args.setup.now events kept (accepted_open c.args.setup.now events c.args.event.now next accepted)))
    ∙ sym c.user_named.ensures
    ∙ c.in-None.is)

pub returns-in-Some-clause-each : goal.returns-in-Some-clause-each
returns-in-Some-clause-each c = λ events kept next.
    let accepted : accepts c.args.event.now ≡ true = sym c.accepts.ensures ∙ c.if-not-accepts.false in
    found_for c.args.setup.now events c.args.event.now c.in-Some.user c.find.result kept.in_range accepted
    (accepted_user c.args.setup.now events c.args.event.now next accepted
    ∙ ap user_named (sym (c.login_of.ensures c.args.setup.now events kept (accepted_open c.args.setup.now events c.args.event.now next accepted)))
    ∙ sym c.user_named.ensures
    ∙ c.in-Some.is)
    c.find.ensures
