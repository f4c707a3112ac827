use Rattle.service_model.proofs.Stories.{all_came, never_stopped}
use Rattle.service_model.proofs.each_session_has_a_connection.Goals as goal

pub returns-clause-came : goal.returns-clause-came
returns-clause-came c = all_came

pub returns-clause-none_stopped : goal.returns-clause-none_stopped
returns-clause-none_stopped c = never_stopped
