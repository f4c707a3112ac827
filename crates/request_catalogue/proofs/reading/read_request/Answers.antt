use Rattle.std.proofs.Common.{arith}
use Rattle.request_catalogue.proofs.Messages.{is_found, is_only, is_fault, is_rule}
use Rattle.request_catalogue.proofs.reading.read_request.Goals as goal

pub returns-clause-found : goal.returns-clause-found
returns-clause-found c = is_found c.args.width c.args.kind c.args.flags c.args.body.now c.look_up.result (λ i. omega (arith, c.type_inv.body i)) c.look_up.ensures

pub returns-clause-only : goal.returns-clause-only
returns-clause-only c = is_only c.args.width c.args.kind c.args.flags c.args.body.now c.look_up.result c.look_up.ensures

pub returns-clause-fault : goal.returns-clause-fault
returns-clause-fault c = is_fault c.args.width c.args.kind c.args.flags c.args.body.now c.look_up.result c.look_up.ensures

pub returns-clause-rule : goal.returns-clause-rule
returns-clause-rule c = is_rule c.args.width c.args.kind c.args.flags c.args.body.now c.look_up.result c.look_up.ensures
