use Rattle.std.proofs.Common.{◌≡◌, ◌<◌, ◌+◌, ◌∷◌, ◌++◌, [], length, ap, refl, subst, sym, ◌∙◌, length-append, arith, rules}
use Rattle.std.proofs.lemmas.Grind.{common_steps}
use Rattle.outside.specs.declared.act.Act.TheVariants.{Accept}
use Rattle.outside.specs.declared.act.Accepted.TheVariants as accepted
use Rattle.policy_model.specs.declared.event.Why.TheVariants.{LogLost}
use Rattle.policy_model.specs.Settings.{Settings}
use Rattle.service_model.specs.Stories.{AcceptFailed, NoneLeft, Unasked}
use Rattle.service_model.proofs.Lists.{All-push}
use Rattle.service_model.proofs.Losses.{GoesOnBehind, alone-all, alone-push, halted-none}
use Rattle.session_loop.specs.Sessions.{EndsFor}
use Rattle.session_loop.proofs.WorkerLemmas.{counted_kept, counted_more, counted_none, goes_on_behind, lost_more, may_open, sitting_here, sittings_more, sittings_none, sittings_stopped}
use Rattle.session_loop.proofs.Overs.{ended_over, first_over, over_here, quota_here}
use Rattle.session_loop.proofs.worker.serve_worker.Goals as goal

pub loop-init : goal.loop-init
loop-init g c =
    let service = g.T.Texts.service c.args.desk.now.replies.texts.now in
    record {
      may = c.requires.may;
      keeps = g.met.A.Turns.keeps_none c.args.turns.now;
      setup = refl;
      desk = refl;
      over = first_over service.setup (g.A.Turns.at c.args.turns.now) c.requires.may_serve.0 c.requires.may_serve.1;
      worker = refl;
      left = search rules;
      story = ([], sittings_none service (g.A.Turns.at c.args.turns.now).rights.worker (g.A.Turns.at c.args.turns.now).seen (g.P.Post.scene c.args.post.now), refl, counted_none (g.P.Post.faults c.args.post.now), tt);
    }

pub returns-then-eq-clause-story : goal.returns-then-eq-clause-story
returns-then-eq-clause-story g c =
    let service = g.T.Texts.service c.args.desk.now.replies.texts.now in
    let worker = (g.A.Turns.at c.args.turns.now).rights.worker in
    let now = c.loop in
    let story = now.invariant.story in
    let run = c.run_session-why in
    let one = sitting_here service worker (g.T.Texts.service now.desk.replies.texts.now) (g.A.Turns.at now.turns).rights.worker run.result (g.A.Turns.at now.turns).seen (g.A.Turns.at run.new.turns).seen (g.P.Post.scene c.accept.new.self) (g.P.Post.scene run.new.post) now.invariant.desk now.invariant.worker run.ensures.sitting in
    let lost : run.result ≡ LogLost = search rules in
    let came = rw c.in-Ok-Some.field-0-is at c.in-Ok-Some.ensures.act in
    record {
      sittings = story.0 ++ one.sitting ∷ [];
      are = sittings_more service worker story.0 run.result (g.A.Turns.at c.args.turns.now).seen (g.A.Turns.at now.turns).seen (g.A.Turns.at run.new.turns).seen (g.P.Post.scene c.args.post.now) (g.P.Post.scene now.post) (g.P.Post.scene c.accept.new.self) (g.P.Post.scene run.new.post) story.1 came one;
      alone = alone-push story.0 one.sitting story.4;
      halted = λ h. refl;
      all = λ e. absurd cc;
      lost = λ e. lost_more service story.0 one.sitting one.is (subst (λ why. EndsFor why one.sitting.ending) lost one.ended);
      counted = counted_more service story.0 one.sitting run.result (g.P.Post.faults c.args.post.now) (g.P.Post.faults c.accept.new.self) (g.P.Post.faults run.new.post)
          (counted_kept story.0 (g.P.Post.faults c.args.post.now) (g.P.Post.faults now.post) (g.P.Post.faults c.accept.new.self) story.3 c.accept.ensures.kept)
          one.is one.ended run.ensures.free.cause;
    }

pub returns-in-Ok-None-clause-story : goal.returns-in-Ok-None-clause-story
returns-in-Ok-None-clause-story g c =
    let service = g.T.Texts.service c.args.desk.now.replies.texts.now in
    let worker = (g.A.Turns.at c.args.turns.now).rights.worker in
    let now = c.loop in
    let story = now.invariant.story in
    record {
      sittings = story.0;
      are = sittings_stopped service worker story.0 NoneLeft (Accept accepted.NoneLeft) (g.A.Turns.at c.args.turns.now).seen (g.A.Turns.at now.turns).seen (g.P.Post.scene c.args.post.now) (g.P.Post.scene now.post) (g.P.Post.scene c.accept.new.self) story.1 (rw c.in-Ok-None.field-0-is at c.in-Ok-None.ensures.act) refl;
      alone = alone-all story.0 story.4;
      halted = halted-none story.0 NoneLeft story.4;
      all = λ e. absurd cc;
      lost = λ e. absurd cc;
      counted = counted_kept story.0 (g.P.Post.faults c.args.post.now) (g.P.Post.faults now.post) (g.P.Post.faults c.accept.new.self) story.3 c.accept.ensures.kept;
    }

pub returns-in-Err-clause-story : goal.returns-in-Err-clause-story
returns-in-Err-clause-story g c =
    let service = g.T.Texts.service c.args.desk.now.replies.texts.now in
    let worker = (g.A.Turns.at c.args.turns.now).rights.worker in
    let now = c.loop in
    let story = now.invariant.story in
    record {
      sittings = story.0;
      are = sittings_stopped service worker story.0 AcceptFailed (Accept accepted.Failed) (g.A.Turns.at c.args.turns.now).seen (g.A.Turns.at now.turns).seen (g.P.Post.scene c.args.post.now) (g.P.Post.scene now.post) (g.P.Post.scene c.accept.new.self) story.1 c.in-Err.ensures.act refl;
      alone = alone-all story.0 story.4;
      halted = halted-none story.0 AcceptFailed story.4;
      all = λ e. absurd cc;
      lost = λ e. absurd cc;
      counted = counted_kept story.0 (g.P.Post.faults c.args.post.now) (g.P.Post.faults now.post) (g.P.Post.faults c.accept.new.self) story.3 c.accept.ensures.kept;
    }

pub returns-clause-story : goal.returns-clause-story
returns-clause-story g c =
    let story = c.loop.invariant.story in
    record {
      sittings = story.0;
      are = story.1;
      alone = alone-all story.0 story.4;
      halted = halted-none story.0 Unasked story.4;
      all = λ e. omega (arith, story.2, c.loop-test.false, c.loop.auto.counter-end, c.connections-end.ensures.value, ap (λ (s : Settings). s.connections) c.setup.ensures.value);
      lost = λ e. absurd cc;
      counted = story.3;
    }

pub loop-preserved : goal.loop-preserved
loop-preserved g c =
    let service = g.T.Texts.service c.args.desk.now.replies.texts.now in
    let worker = (g.A.Turns.at c.args.turns.now).rights.worker in
    let now = c.loop in
    let kept = now.invariant in
    let story = kept.story in
    let run = c.run_session-why in
    let one = sitting_here service worker (g.T.Texts.service now.desk.replies.texts.now) (g.A.Turns.at now.turns).rights.worker run.result (g.A.Turns.at now.turns).seen (g.A.Turns.at run.new.turns).seen (g.P.Post.scene c.accept.new.self) (g.P.Post.scene run.new.post) kept.desk kept.worker run.ensures.sitting in
    let came = rw c.in-Ok-Some.field-0-is at c.in-Ok-Some.ensures.act in
    let other : run.result ≡ LogLost → ⊥ = search rules in
    let more : length (story.0 ++ one.sitting ∷ []) ≡ c.loop.counter + 1 = length-append story.0 (one.sitting ∷ []) ∙ ap (λ n. n + 1) story.2 in
    record {
      may = run.ensures.turns.2;
      keeps = g.met.A.Turns.keeps_then c.args.turns.now now.turns run.new.turns kept.keeps run.ensures.turns.0;
      setup = run.ensures.turns.1 ∙ kept.setup;
      desk = run.ensures.desk ∙ kept.desk;
      over = over_here service.setup (g.T.Texts.service now.desk.replies.texts.now).setup worker (g.A.Turns.at now.turns).rights.worker (g.A.Turns.at run.new.turns).seen (ap (λ s. s.setup) kept.desk) kept.worker run.ensures.free.over;
      worker = run.ensures.free.rights.worker ∙ kept.worker;
      left = grind (arith, common_steps);
      story = (
        story.0 ++ one.sitting ∷ [],
        sittings_more service worker story.0 run.result (g.A.Turns.at c.args.turns.now).seen (g.A.Turns.at now.turns).seen (g.A.Turns.at run.new.turns).seen (g.P.Post.scene c.args.post.now) (g.P.Post.scene now.post) (g.P.Post.scene c.accept.new.self) (g.P.Post.scene run.new.post) story.1 came one,
        more,
        counted_more service story.0 one.sitting run.result (g.P.Post.faults c.args.post.now) (g.P.Post.faults c.accept.new.self) (g.P.Post.faults run.new.post)
            (counted_kept story.0 (g.P.Post.faults c.args.post.now) (g.P.Post.faults now.post) (g.P.Post.faults c.accept.new.self) story.3 c.accept.ensures.kept)
            one.is one.ended run.ensures.free.cause,
        All-push GoesOnBehind story.0 one.sitting story.4 (goes_on_behind one.sitting run.result one.ended other),
      );
    }

pub run_session-why-requires-clause-may_open : goal.run_session-why-requires-clause-may_open
run_session-why-requires-clause-may_open g c κs within =
    let now = c.loop in
    let setup = (g.T.Texts.service c.args.desk.now.replies.texts.now).setup in
    let below : now.counter < setup.connections = search rules in
    let same : (g.A.Turns.at now.turns).setup ≡ setup = now.invariant.setup ∙ c.requires.may_serve.0 in (
      same ∙ ap (λ s. s.setup) (sym now.invariant.desk),
      may_open setup (g.A.Turns.at c.args.turns.now).rights (g.A.Turns.at now.turns).rights (g.A.Turns.at now.turns).seen now.counter (quota_here setup (g.A.Turns.at c.args.turns.now) c.requires.may_serve.0 c.requires.may_serve.1) now.invariant.left below now.invariant.over now.invariant.worker (g.A.Turns.at now.turns).setup same,
    )

pub returns-in-Ok-None-clause-ended : goal.returns-in-Ok-None-clause-ended
returns-in-Ok-None-clause-ended g c = record {
  over = ended_over (g.T.Texts.service c.args.desk.now.replies.texts.now).setup (g.A.Turns.at c.args.turns.now) (g.A.Turns.at c.loop.turns).seen c.requires.may_serve.0 c.loop.invariant.over;
  worker = c.loop.invariant.worker;
  accept_fault = λ same. absurd cc;
}

pub returns-in-Err-clause-ended : goal.returns-in-Err-clause-ended
returns-in-Err-clause-ended g c = record {
  over = ended_over (g.T.Texts.service c.args.desk.now.replies.texts.now).setup (g.A.Turns.at c.args.turns.now) (g.A.Turns.at c.loop.turns).seen c.requires.may_serve.0 c.loop.invariant.over;
  worker = c.loop.invariant.worker;
  accept_fault = λ same. search rules;
}

pub returns-clause-ended : goal.returns-clause-ended
returns-clause-ended g c = record {
  over = ended_over (g.T.Texts.service c.args.desk.now.replies.texts.now).setup (g.A.Turns.at c.args.turns.now) (g.A.Turns.at c.loop.turns).seen c.requires.may_serve.0 c.loop.invariant.over;
  worker = c.loop.invariant.worker;
  accept_fault = λ same. absurd cc;
}

pub returns-then-eq-clause-ended : goal.returns-then-eq-clause-ended
returns-then-eq-clause-ended g c =
    let service = g.T.Texts.service c.args.desk.now.replies.texts.now in
    let first = g.A.Turns.at c.args.turns.now in
    let now = c.loop in
    let run = c.run_session-why in
    let over = over_here service.setup (g.T.Texts.service now.desk.replies.texts.now).setup first.rights.worker (g.A.Turns.at now.turns).rights.worker (g.A.Turns.at run.new.turns).seen (ap (λ s. s.setup) now.invariant.desk) now.invariant.worker run.ensures.free.over in
    record {
      over = ended_over service.setup first (g.A.Turns.at run.new.turns).seen c.requires.may_serve.0 over;
      worker = run.ensures.free.rights.worker ∙ now.invariant.worker;
      accept_fault = λ same. absurd cc;
    }
