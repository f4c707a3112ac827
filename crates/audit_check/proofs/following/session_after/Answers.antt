use Rattle.std.proofs.Common.{◌∙◌, ap, sym}
use Rattle.policy_model.proofs.Verdicts.{session_of-other}
use Rattle.audit_check.proofs.KeptLemmas.{begin_session}
use Rattle.audit_check.specs.declared.seats.Seat.{Seat}
use Rattle.audit_check.proofs.following.session_after.Goals as goal

pub returns-then-is_begin : goal.returns-then-is_begin
returns-then-is_begin c = λ setup events kept.
    c.opening_session.ensures setup events kept
    ∙ begin_session events c.args.event.now.worker c.args.event.now.ask c.args.event.now.decision (sym c.is_begin.ensures ∙ c.if-is_begin.true)

pub returns-else-is_begin : goal.returns-else-is_begin
returns-else-is_begin c = λ setup events kept.
    ap (λ (s : Seat). s.session) c.index.ensures
    ∙ (kept.seats c.args.event.now.worker c.index.result.now c.requires.worker).session
    ∙ sym (session_of-other events c.args.event.now.worker c.args.event.now.ask c.args.event.now.decision (sym c.is_begin.ensures ∙ c.if-is_begin.false))
