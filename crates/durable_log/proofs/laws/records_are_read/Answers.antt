use Rattle.durable_log.proofs.Reading.{records_read}
use Rattle.durable_log.proofs.laws.records_are_read.Goals as goal

pub returns : goal.returns
returns c = λ image records has. records_read image records has
