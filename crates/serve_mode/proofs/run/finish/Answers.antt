use Rattle.std.proofs.Common.{ap, ◌∙◌}
use Rattle.policy_model.specs.Journal.{has_lost}
use Rattle.serve_mode.specs.Steps.{run_end}
use Rattle.serve_mode.proofs.run.finish.Goals as goal

pub returns-clause-finished : goal.returns-clause-finished
returns-clause-finished g c =
    let written = c.write_back-written.result in
    record {
      written = written;
      writes = c.write_back-written.ensures.written;
      ended = c.run_end.ensures ∙ ap (λ b. run_end written b c.args.ran.accept_failed) (c.has_lost.ensures ∙ ap has_lost c.deref.ensures.value);
    }
