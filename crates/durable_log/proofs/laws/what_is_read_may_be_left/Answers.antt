use Rattle.durable_log.proofs.Calls.{read_left}
use Rattle.durable_log.proofs.laws.what_is_read_may_be_left.Goals as goal

pub returns : goal.returns
returns c = λ at bytes before after call within left. read_left at bytes before after call within left
