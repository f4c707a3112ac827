use Rattle.std.proofs.Common.{◌∙◌, ap, sym}
use Rattle.audit_check.specs.Following.{is_no_reading}
use Rattle.audit_check.proofs.KeptLemmas.{open_told, shut_told}
use Rattle.audit_check.proofs.following.is_open.Goals as goal

pub returns-then-is_reply : goal.returns-then-is_reply
returns-then-is_reply c = λ setup before is.
    c.is_no_reading.ensures
    ∙ ap is_no_reading is
    ∙ open_told setup before c.args.event.now.worker c.args.event.now.ask c.requires (sym c.is_reply.ensures ∙ c.if-is_reply.true)

pub returns-else-is_reply : goal.returns-else-is_reply
returns-else-is_reply c = λ setup before is.
    c.if-is_reply.false ∙ shut_told setup before c.args.event.now.worker c.args.event.now.ask (sym c.is_reply.ensures ∙ c.if-is_reply.false)
