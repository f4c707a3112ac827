use Rattle.std.proofs.Common.{◌∙◌, ◌+◌, ◌++◌, ◌∷◌, [], map, take, sym, ap, subst, arith}
use Rattle.std.proofs.lemmas.List.{length-append, map-append, take_more}
use Rattle.policy_laws.proofs.Alike.{shows_no_accounts}
use Rattle.policy_model.specs.Legal.{IsLegal}
use Rattle.policy_model.specs.Settings.{Settings}
use Rattle.session_core.specs.Replayed.{asked_of, stepped_of}
use Rattle.session_core.specs.Standing.{Stands}
use Rattle.session_core.proofs.ReplayLemmas.{begun_few, consequences}
use Rattle.session_core.proofs.replaying.replay.Goals as goal

pub step-event-requires-clause-room : goal.step-event-requires-clause-room
step-event-requires-clause-room c =
    let inv = c.loop-step.invariant in
    record {
      few = omega (arith, inv.settled, c.requires.few, c.loop-step-test.true);
      openings = λ h. omega (arith, begun_few c.loop-step.core c.loop-step.events.items inv.stands, inv.settled, inv.cap, c.loop-step-test.true);
    }

pub loop-step-preserved : goal.loop-step-preserved
loop-step-preserved c =
    let inv = c.loop-step.invariant in
    let events = c.loop-step.events.items in
    let event = c.step-event.ensures.event events inv.stands in
    let stands : Stands c.step-event.new.self (events ++ c.step-event.result ∷ []) = c.step-event.ensures.stands events inv.stands in
    record {
      setup = c.step-event.ensures.kept.setup_is ∙ inv.setup;
      cap = c.step-event.ensures.kept.cap_is ∙ inv.cap;
      settled = stands.settled ∙ length-append events (c.step-event.result ∷ []) ∙ ap (λ n. n + 1) (sym inv.stands.settled ∙ inv.settled);
      stands = rw c.in_ok-push.ensures.items stands;
      asks =
          ap (map asked_of) c.in_ok-push.ensures.items
          ∙ map-append asked_of events (c.step-event.result ∷ [])
          ∙ ap (λ xs. xs ++ asked_of c.step-event.result ∷ []) inv.asks
          ∙ ap (λ x. map stepped_of (take c.loop-step.step-index c.args.steps.now) ++ x ∷ []) (ap asked_of event ∙ ap stepped_of c.step-item.is)
          ∙ sym (map-append stepped_of (take c.loop-step.step-index c.args.steps.now) _)
          ∙ ap (map stepped_of) (sym (take_more c.args.steps.now c.loop-step.step-index c.step-item.result c.loop-step-test.true));
    }

pub returns-clause-legal : goal.returns-clause-legal
returns-clause-legal c = subst (λ (s : Settings). IsLegal s c.loop-step.events.items) c.loop-step.invariant.setup c.loop-step.invariant.stands.legal

pub returns-clause-kept : goal.returns-clause-kept
returns-clause-kept c = c.loop-step.invariant.stands.kept

pub returns-clause-unseen : goal.returns-clause-unseen
returns-clause-unseen c = shows_no_accounts c.args.setup.now c.loop-step.events.items (subst (λ (s : Settings). IsLegal s c.loop-step.events.items) c.loop-step.invariant.setup c.loop-step.invariant.stands.legal)

pub returns-clause-consequences : goal.returns-clause-consequences
returns-clause-consequences c = consequences c.args.setup.now c.loop-step.events.items (subst (λ (s : Settings). IsLegal s c.loop-step.events.items) c.loop-step.invariant.setup c.loop-step.invariant.stands.legal)
