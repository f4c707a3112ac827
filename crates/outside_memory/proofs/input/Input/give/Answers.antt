use Rattle.outside_memory.proofs.RepeatingLemmas.{All-items_after}
use Rattle.std.proofs.Common.{◌≤◌}
use Rattle.outside_memory.proofs.input.Input.give.Goals as goal

pub invariant_of-self-clause-each_cut : goal.invariant_of-self-clause-each_cut
invariant_of-self-clause-each_cut c =
    rw c.take.ensures.after (All-items_after (λ n. 1 ≤ n) c.args.self.now.cuts c.args.self.now.each_cut)
