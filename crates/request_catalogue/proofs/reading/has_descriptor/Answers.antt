use Rattle.std.proofs.Common.{arith}
use Rattle.std.proofs.lemmas.Bool.Decides.{nat_tests}
use Rattle.std.proofs.lemmas.Nat.{and_mask}
use Rattle.request_catalogue.proofs.reading.has_descriptor.Goals as goal

-- bit 1 is set where the number is odd
pub returns : goal.returns
returns c = rw (and_mask c.args.flags 1) (grind (arith, nat_tests))
