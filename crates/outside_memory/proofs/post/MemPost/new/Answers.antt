use Rattle.std.proofs.Common.{All, ◌≤◌, subst, sym}
use Rattle.outside_memory.specs.Script.{plan_of}
use Rattle.outside_memory.proofs.Counted.{counts_none}
use Rattle.outside_memory.proofs.post.MemPost.new.Goals as goal

pub invariant_of-result-clause-each_cut : goal.invariant_of-result-clause-each_cut
invariant_of-result-clause-each_cut c =
    subst (All (λ cut. 1 ≤ cut)) (sym c.in_ok-from_slice.ensures.items) c.requires.each_cut

pub invariant_of-result-clause-told : goal.invariant_of-result-clause-told
invariant_of-result-clause-told c =
    counts_none _ _ _ (c.new-2.ensures.told (plan_of c.args.scripts.items)) c.none.ensures.accept c.none.ensures.keeper c.none.ensures.conn c.none.ensures.vault
