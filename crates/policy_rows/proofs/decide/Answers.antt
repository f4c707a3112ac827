use Rattle.std.proofs.Common.{subst, sym}
use Rattle.policy_model.specs.Legal.{IsLegal}
use Rattle.session_laws.proofs.NextEvents.{legal_goes_on}
use Rattle.policy_rows.proofs.Additions.{adds_next}
use Rattle.policy_rows.proofs.decide.Goals as goal

pub returns-clause-legal : goal.returns-clause-legal
returns-clause-legal c = λ kept legal.
    let added = adds_next c.args.setup.now c.args.journal.now.items c.as_slice.result.now c.as_slice-2.result.now c.push.new.self.items c.args.worker c.args.ask.now c.judge-decision.result c.event_after-event.result c.as_slice.ensures.value c.judge-decision.ensures.verdict c.as_slice-2.ensures.value c.event_after-event.ensures c.in_ok-push.ensures.items in
    subst (IsLegal c.args.setup.now) (sym added) (legal_goes_on c.args.setup.now c.args.journal.now.items c.args.worker c.args.ask.now legal kept)
