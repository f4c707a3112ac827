use Rattle.std.proofs.Common.{arith}
use Rattle.state_export.proofs.Imports.{is_found, is_only}
use Rattle.state_export.proofs.import.read_import.Goals as goal

pub returns-clause-found : goal.returns-clause-found
returns-clause-found c = is_found c.args.body.now c.import_of.result (λ i. omega (arith, c.type_inv.body i)) c.import_of.ensures

pub returns-clause-only : goal.returns-clause-only
returns-clause-only c = is_only c.args.body.now c.import_of.result c.import_of.ensures
