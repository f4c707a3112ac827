use Rattle.std.proofs.Common.{arith}
use Rattle.session_turns.specs.Passes.{BookPass, MayCall}
use Rattle.session_turns.proofs.Passes.{asked}
use Rattle.session_turns.proofs.at_cell.AtCellTurns.ask.Goals as goal

pub returns-clause-joins : goal.returns-clause-joins
returns-clause-joins g c =
    let place = g.C.SeenCell.place c.args.self.now.cell.now in
    let old : BookPass = g.P.SeenPass.facts c.args.self.now.pass.now in
    let may : MayCall place old c.args.ask = record { here = c.requires.may.0.here; room = omega (arith, c.requires.room); proper = c.requires.proper } in
    let called = c.requires.may.1.gives _ _ c.args.ask c.call.result may c.call.ensures in
    (asked c.args.self.now.setup.now place c.args.ask old _ c.call.result c.requires.may.0 c.requires.room called).joins
