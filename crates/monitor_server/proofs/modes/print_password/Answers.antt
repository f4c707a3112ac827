use Rattle.monitor_server.proofs.Before.{printed_from}
use Rattle.std.proofs.Common.{[]}
use Rattle.monitor_server.proofs.Touching.{only_given, touched_from}
use Rattle.monitor_server.proofs.modes.print_password.Goals as goal

pub returns-clause-password : goal.returns-clause-password
returns-clause-password g c = printed_from c.sides.view_is (record {
  outcome = c.run_otp-outcome.result;
  status_is = c.status_of.ensures;
  detail_is = c.detail_of.ensures;
  cause = c.run_otp-outcome.ensures.outcome;
  exact = c.run_otp-outcome.ensures.exact;
  asked = c.run_otp-outcome.ensures.asks.line;
})

pub returns-clause-touches : goal.returns-clause-touches
returns-clause-touches g c = touched_from g.F.Files.contents c.sides.view_is (only_given [] [] c.run_otp-outcome.ensures.files)
