use Rattle.std.proofs.Common.{◌∙◌, arith}
use Rattle.durable_log.proofs.Pieces.{drop_least, take_least}
use Rattle.durable_log.proofs.journal.first_piece.Goals as goal

pub returns-clause-piece : goal.returns-clause-piece
returns-clause-piece c = c.split_at.ensures.front ∙ take_least c.args.bytes.now c.min.result (omega (arith, c.min.ensures))

pub returns-clause-rest : goal.returns-clause-rest
returns-clause-rest c = c.split_at.ensures.back ∙ drop_least c.args.bytes.now c.min.result (omega (arith, c.min.ensures))
