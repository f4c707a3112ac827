use Rattle.std.proofs.Common.{◌∙◌}
use Rattle.monitor_server.proofs.Before.{recovered_from}
use Rattle.monitor_server.proofs.Told.{recover_unwritten}
use Rattle.monitor_server.proofs.Touching.{touched_from}
use Rattle.monitor_server.proofs.modes.recover_accounts.Goals as goal

pub returns-clause-recover : goal.returns-clause-recover
returns-clause-recover g c =
    let ran = c.run_recover-outcome.ensures in
    let status = c.status_of.ensures in
    recovered_from c.sides.view_is (record {
      outcome = c.run_recover-outcome.result;
      status_is = status;
      detail_is = c.detail_of.ensures;
      cause = ran.outcome;
      logged = ran.back;
      spares = ran.spares;
      unwritten = λ zero eight eleven. ran.unwritten (recover_unwritten c.run_recover-outcome.result (λ e. zero (status ∙ e)) (λ e. eight (status ∙ e)) (λ e. eleven (status ∙ e)));
    })

pub returns-clause-touches : goal.returns-clause-touches
returns-clause-touches g c = touched_from g.F.Files.contents c.sides.view_is c.run_recover-outcome.ensures.files
