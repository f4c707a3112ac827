use Rattle.std.proofs.Common.{◌∙◌}
use Rattle.monitor_server.proofs.Before.{renewed_from}
use Rattle.monitor_server.proofs.Told.{renew_unwritten}
use Rattle.monitor_server.proofs.Touching.{touched_from}
use Rattle.monitor_server.proofs.modes.renew_account.Goals as goal

pub returns-clause-renew : goal.returns-clause-renew
returns-clause-renew g c =
    let ran = c.run_renew-outcome.ensures in
    let status = c.status_of.ensures in
    renewed_from c.sides.view_is (record {
      outcome = c.run_renew-outcome.result;
      status_is = status;
      detail_is = c.detail_of.ensures;
      cause = ran.outcome;
      asked = ran.asks.line;
      spares = ran.spares;
      unwritten = λ zero eight eleven. ran.unwritten (renew_unwritten c.run_renew-outcome.result (λ e. zero (status ∙ e)) (λ e. eight (status ∙ e)) (λ e. eleven (status ∙ e)));
    })

pub returns-clause-touches : goal.returns-clause-touches
returns-clause-touches g c = touched_from g.F.Files.contents c.sides.view_is c.run_renew-outcome.ensures.files
