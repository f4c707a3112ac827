use Rattle.std.proofs.Common.{arith}
use Rattle.state_export.proofs.States.{is_found, is_only}
use Rattle.state_export.proofs.reading.read_state.Goals as goal

pub returns-clause-found : goal.returns-clause-found
returns-clause-found c = is_found c.args.bytes.now c.state_of.result (λ i. omega (arith, c.type_inv.bytes i)) c.state_of.ensures

pub returns-clause-only : goal.returns-clause-only
returns-clause-only c = is_only c.args.bytes.now c.state_of.result c.state_of.ensures
