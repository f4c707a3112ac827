use Rattle.std.proofs.Common.{arith}
use Rattle.request_catalogue.proofs.ReplyTable.{is_found, is_only, is_unreadable}
use Rattle.request_catalogue.proofs.replies.read_reply.Goals as goal

pub returns-clause-found : goal.returns-clause-found
returns-clause-found c = is_found c.args.body.now c.ok_or.result (λ i. omega (arith, c.type_inv.body i)) (rw (← c.ok_or.ensures.ok_part) c.answered_by.ensures)

pub returns-clause-only : goal.returns-clause-only
returns-clause-only c = is_only c.args.body.now c.ok_or.result (rw (← c.ok_or.ensures.ok_part) c.answered_by.ensures)

pub returns-clause-unreadable : goal.returns-clause-unreadable
returns-clause-unreadable c = is_unreadable c.args.body.now c.ok_or.result (rw (← c.ok_or.ensures.ok_part) c.answered_by.ensures)
