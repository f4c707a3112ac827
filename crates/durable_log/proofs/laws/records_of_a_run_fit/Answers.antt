use Rattle.durable_log.proofs.Reading.{image_fits}
use Rattle.durable_log.proofs.laws.records_of_a_run_fit.Goals as goal

pub returns : goal.returns
returns c = λ given short few. image_fits given short few
