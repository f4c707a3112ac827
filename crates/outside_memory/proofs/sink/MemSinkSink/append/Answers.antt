use Rattle.std.proofs.Common.{rules}
use Rattle.outside_memory.proofs.sink.MemSinkSink.append.Goals as goal

pub returns-in-Some-clause-length_err : goal.returns-in-Some-clause-length_err
returns-in-Some-clause-length_err c = (c.write-length.result, search rules)
