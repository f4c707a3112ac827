use Rattle.durable_log.proofs.Pieces.{one_piece}
use Rattle.durable_log.proofs.laws.a_short_append_is_one_record.Goals as goal

pub returns-clause-one : goal.returns-clause-one
returns-clause-one c = λ bytes some few. one_piece bytes some few
