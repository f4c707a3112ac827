use Rattle.std.proofs.Common.{◌<◌, ℕ, ap, subst}
use Rattle.std.specs.List.{All}
use Rattle.std.specs.Prelude.{Option as Maybe, slice_index_or}
use Rattle.turn_cell.specs.Facts.{CellFacts}
use Rattle.turn_cell.specs.Turns.{setting_at, LegalAt}
use Rattle.turn_cell.proofs.Counts.{owned}
use Rattle.turn_cell.proofs.Ends.{all_covered, back_pass}
use Rattle.turn_cell.proofs.cell.TurnCell.close.Goals as goal

pub finish-requires-clause-all : goal.finish-requires-clause-all
finish-requires-clause-all g c κs within =
    let seat = c.gather-seat.result in (
      c.gather-seat.ensures.idle.1,
      c.gather-seat.ensures.idle.0,
      λ n h. all_covered seat.me.0 c.args.self c.args.passes.items c.gather-seat.ensures.idle.1 c.requires.all c.gather-seat.ensures.kept n
          (subst (λ (k : ℕ). n < k) (ap (λ (z : CellFacts (Maybe g.row.O-Terms.Denot)). z.passes) c.self.view_is) h),
    )

pub returns-clause-passes : goal.returns-clause-passes
returns-clause-passes g c k d h = back_pass g.O.Object.history g.O.Object.owner (setting_at g.O.Object.terms g.O.Object.passes g.O.Object.quota) (LegalAt g.O.Object.legal) ((setting_at g.O.Object.terms g.O.Object.passes g.O.Object.quota) c.self.inside.table.shared.key.value) c.gather-seat.result.me.0 c.finish.result (slice_index_or c.args.passes.items k d) c.finish.ensures (c.gather-seat.ensures.kept k d h)

pub returns-clause-owners : goal.returns-clause-owners
returns-clause-owners g c = subst (λ (n : ℕ). All (λ r. g.O.Object.owner r < n) (g.O.Object.history c.finish.result)) (ap (λ (z : CellFacts (Maybe g.row.O-Terms.Denot)). z.passes) c.self.view_is)
    (owned g.O.Object.owner (g.O.Object.passes c.self.inside.table.shared.key.value) (g.O.Object.quota c.self.inside.table.shared.key.value) (g.O.Object.history c.finish.result) c.finish.ensures.within)
