use Rattle.std.proofs.Common.{arith}
use Rattle.imsg_frame.proofs.Arrays.{joined}
use Rattle.imsg_frame.proofs.reader.join.Goals as goal

pub returns-then-cut-len-clause-joined : goal.returns-then-cut-len-clause-joined
returns-then-cut-len-clause-joined c short =
    joined c.args.front.now c.args.back.now c.args.spare.now c.copy_from_slice.new.self c.copy_from_slice-then-cut-len.new.self (omega arith) c.requires.there c.copy_from_slice.ensures.after c.copy_from_slice-then-cut-len.ensures.after
