use Rattle.std.proofs.Common.{arith}
use Rattle.turn_cell.specs.Turns.{setting_at, LegalAt}
use Rattle.turn_cell.proofs.Keeps.{allows_take, taken_once}
use Rattle.turn_cell.proofs.steps.try_take.Goals as goal

pub compare_exchange-requires : goal.compare_exchange-requires
compare_exchange-requires g c = (
  c.requires.table.0,
  omega (arith, c.requires.table.1),
  allows_take g.O.Object.history g.O.Object.owner (setting_at g.O.Object.terms g.O.Object.passes g.O.Object.quota) (LegalAt g.O.Object.legal) (setting_at g.O.Object.terms g.O.Object.passes g.O.Object.quota c.args.top.now.key.value) c.args.top.now.table_id.slots c.args.seat.now.id c.args.seat.now.me.0 c.args.seat.now.me.1 _ c.requires.idle.1 c.requires.idle.2 (taken_once g.O.Object.history g.O.Object.owner (setting_at g.O.Object.terms g.O.Object.passes g.O.Object.quota) (LegalAt g.O.Object.legal) c.args.word c.requires.word),
)
