use Rattle.std.proofs.Common.{sym, ap, subst, ◌∙◌}
use Rattle.turn_cell.proofs.Ends.{all_new}
use Rattle.monitor_run.specs.Prepared.{LogStays, Preparation}
use Rattle.monitor_run.proofs.Kept.{unserved_log}
use Rattle.monitor_run.proofs.prepared.Prepared.give_up.Goals as goal

pub close_cell-requires-clause-all : goal.close_cell-requires-clause-all
close_cell-requires-clause-all g c κs within = all_new c.self.inside.cell c.self.inside.passes.items c.self.invariant.0.new

pub returns : goal.returns
returns g c = λ held faults told.
    let made = c.self.invariant.0 in
    let terms = ap (λ (p : Preparation). p.opened) c.self.view_is ∙ told in
    let count = made.cell.1 ∙ ap (λ (p : Preparation). p.service.setup.workers) c.self.view_is in
    let log = c.parts-core.ensures.log in
    let stays = unserved_log c.args.self.service.setup c.self.inside.cell c.self.inside.passes.items c.close_cell.result c.self.inside.cell.terms held faults c.parts-core.ensures.kept terms c.close_cell.ensures.cell count made.new c.close_cell.ensures.passes in
    subst (λ h. LogStays held h faults (g.K.Sink.faults c.parts-core.result.2)) (sym log.0) (subst (λ n. LogStays held c.close_cell.result.held faults n) (sym log.1) stays)
