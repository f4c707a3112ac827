use Rattle.recovery_law.proofs.Survives.{loses_no_event}
use Rattle.recovery_law.proofs.laws.a_crash_loses_no_answered_event.Goals as goal

pub returns : goal.returns
returns c = λ setup journal log given run is told holds. loses_no_event setup journal log given run is told holds
