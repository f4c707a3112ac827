use Rattle.std.proofs.Common.{length, arith}
use Rattle.fixed_list.proofs.Lists.{drop-copied, get_or-copied}
use Rattle.fixed_list.proofs.FixedList.of.Goals as goal

-- the copied bytes are bytes, and so are the zeros after them
pub invariant_of-result-clause-small : goal.invariant_of-result-clause-small
invariant_of-result-clause-small g c = get_or-copied g.row.N (length c.args.bytes.now) c.args.bytes.now c.copy_from_slice.new.self c.copy_from_slice.ensures.after (λ k. omega (arith, c.type_inv.bytes k))

-- after the copied bytes stand the zeros that were there
pub invariant_of-result-clause-padded : goal.invariant_of-result-clause-padded
invariant_of-result-clause-padded g c = drop-copied g.row.N c.args.bytes.now c.copy_from_slice.new.self c.copy_from_slice.ensures.after
