use Rattle.std.proofs.Common.{arith}
use Rattle.tally.proofs.Written.{all_written}
use Rattle.keeping_tests.proofs.tallies.all_get_it.Goals as goal

pub close-slow-requires-clause-all : goal.close-slow-requires-clause-all
close-slow-requires-clause-all g c κs =
    all_written c.in-Ok.cell c.in-Ok.passes.items c.deref_mut.result.now c.call_while_held.new.passes c.in-Ok.passes.len c.in-Ok.ensures.passes c.deref_mut.ensures.value (let b = c.in-Ok.passes.ok in omega arith) c.call_while_held.auto.passes c.call_while_held.ensures.same
