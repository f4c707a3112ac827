use denote.Param.Send.{sendable}
use Rattle.std.proofs.Crossing.{crosses}
use Rattle.session_turns.proofs.Sent.{book_send}
use Rattle.turn_cell.proofs.pass.Pass.TheSendSync as sent_pass
use Rattle.turn_cell.proofs.cell.TurnCell.TheSendSync as sent_cell
use Rattle.monitor_run.proofs.worker.Worker.TheSendSync as sent_worker
use Rattle.monitor_run.proofs.threads.serve_all.Goals as goal

pub for_each_mut-requires-send-T : goal.for_each_mut-requires-send-T
for_each_mut-requires-send-T g c κs within = search (sendable, sent_worker.the_send, sent_pass.the_send, book_send) depth 60 fits 100000

pub for_each_mut-requires-sync-F : goal.for_each_mut-requires-sync-F
for_each_mut-requires-sync-F g c κs within = search (sendable, crosses, sent_cell.the_sync, book_send) depth 60 fits 100000
