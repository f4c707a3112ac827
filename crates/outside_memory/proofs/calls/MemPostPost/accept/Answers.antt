use Rattle.std.proofs.Common.{arith, refl}
use Rattle.outside_memory.specs.Script.{plan_of}
use Rattle.outside_memory.proofs.Counted.{counts_did}
use Rattle.outside_memory.proofs.calls.MemPostPost.accept.Goals as goal

pub invariant_of-self-clause-counted : goal.invariant_of-self-clause-counted
invariant_of-self-clause-counted c =
    λ t. omega (arith, c.act.ensures.came c.args.self.now.came c.args.self.now.counted t)

pub invariant_of-self-then-self-len-clause-counted : goal.invariant_of-self-then-self-len-clause-counted
invariant_of-self-then-self-len-clause-counted c =
    λ t. omega (arith, c.act-then-self-len.ensures.came c.args.self.now.came c.args.self.now.counted t)

pub invariant_of-self-2-clause-counted : goal.invariant_of-self-2-clause-counted
invariant_of-self-2-clause-counted c =
    λ t. omega (arith, c.act-2.ensures.came c.args.self.now.came c.args.self.now.counted t)

pub invariant_of-self-clause-told : goal.invariant_of-self-clause-told
invariant_of-self-clause-told c =
    counts_did _ _ _ _ _ (c.act.ensures.did (plan_of c.args.self.now.scripts.items)) (record { accept = c.saturating_add-self-then-is_some.ensures; keeper = refl; conn = refl; vault = refl }) c.args.self.now.told

pub invariant_of-self-then-self-len-clause-told : goal.invariant_of-self-then-self-len-clause-told
invariant_of-self-then-self-len-clause-told c =
    counts_did _ _ _ _ _ (c.act-then-self-len.ensures.did (plan_of c.args.self.now.scripts.items)) (record { accept = refl; keeper = refl; conn = refl; vault = refl }) c.args.self.now.told

pub invariant_of-self-2-clause-told : goal.invariant_of-self-2-clause-told
invariant_of-self-2-clause-told c =
    counts_did _ _ _ _ _ (c.act-2.ensures.did (plan_of c.args.self.now.scripts.items)) (record { accept = refl; keeper = refl; conn = refl; vault = refl }) c.args.self.now.told
