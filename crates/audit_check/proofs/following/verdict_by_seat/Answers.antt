use Rattle.std.proofs.Common.{◌≡◌, ◌∙◌, ap, subst, sym}
use Rattle.std.specs.Prelude.{IfSome}
use Rattle.policy_model.specs.Verdict.{verdict_of}
use Rattle.audit_check.specs.Seats.{IsSeat, seat_verdict}
use Rattle.audit_check.proofs.SeatLemmas.{seat_told}
use Rattle.audit_check.proofs.following.verdict_by_seat.Goals as goal

pub returns : goal.returns
returns c = λ events kept.
    let seat : IsSeat c.index.result.now c.args.event.now.worker events = subst (λ s. IsSeat s c.args.event.now.worker events) (sym c.index.ensures) (kept.seats c.args.event.now.worker c.index.result.now c.requires.worker) in
    subst (λ o. IfSome o (λ d. d ≡ verdict_of c.args.setup.now events c.args.event.now.worker c.args.event.now.ask))
    (sym (c.judge_by_seat.ensures ∙ ap (λ n. seat_verdict n c.args.history.now.opened c.index.result.now c.args.event.now.ask) c.requests.ensures.value))
    (seat_told c.args.setup.now events c.args.event.now.worker c.args.history.now.opened c.index.result.now c.args.event.now.ask seat kept.opened)
