use Rattle.std.proofs.Common.{◌∙◌, sym}
use Rattle.audit_check.proofs.KeptLemmas.{decided_open, decided_shut}
use Rattle.audit_check.proofs.following.is_decided.Goals as goal

pub returns-then-is_open : goal.returns-then-is_open
returns-then-is_open c = λ events kept.
    let asked = sym (c.is_open.ensures c.args.setup.now events (c.verdict-verdict.ensures events kept)) ∙ c.if-is_open.true in
    decided_open c.args.setup.now events c.args.event.now c.may_be_decided.result asked (c.may_be_decided.ensures events kept)

pub returns-else-is_open : goal.returns-else-is_open
returns-else-is_open c = λ events kept.
    let asked = sym (c.is_open.ensures c.args.setup.now events (c.verdict-verdict.ensures events kept)) ∙ c.if-is_open.false in
    decided_shut c.args.setup.now events c.args.event.now c.is_verdict.result c.verdict-verdict.result asked (c.verdict-verdict.ensures events kept) c.is_verdict.ensures
