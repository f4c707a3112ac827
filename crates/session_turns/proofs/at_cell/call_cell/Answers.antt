use denote.Param.Send.{sendable}
use Rattle.session_turns.proofs.Sent.{book_send}
use Rattle.session_turns.proofs.at_cell.call_cell.Goals as goal

pub call-requires-send-O : goal.call-requires-send-O
call-requires-send-O g c κs within = search (sendable, book_send) depth 20
