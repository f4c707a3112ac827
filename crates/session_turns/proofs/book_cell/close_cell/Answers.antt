use denote.Param.Send.{sendable}
use Rattle.session_turns.proofs.Passes.{all_held}
use Rattle.session_turns.proofs.Sent.{book_send}
use Rattle.session_turns.proofs.book_cell.close_cell.Goals as goal

pub close-requires-send-O : goal.close-requires-send-O
close-requires-send-O g c κs within = search (sendable, book_send) depth 20

pub returns-clause-passes : goal.returns-clause-passes
returns-clause-passes g c = all_held c.close.result.journal c.args.passes.items c.requires.own c.close.ensures.passes
