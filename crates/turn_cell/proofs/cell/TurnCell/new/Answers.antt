use Rattle.std.proofs.Common.{◌≡◌, sym, ap, ◌∙◌, Some}
use Rattle.std.specs.Prelude.{Option as Maybe}
use Rattle.turn_cell.specs.Facts.{CellFacts, first_passes}
use Rattle.turn_cell.proofs.Ends.{new_passes}
use Rattle.turn_cell.proofs.cell.TurnCell.new.Goals as goal

pub returns-in-Ok-open-clause-passes : goal.returns-in-Ok-open-clause-passes
returns-in-Ok-open-clause-passes g c =
    let object = c.in-Ok-open.table.shared.key.value in
    let cell : CellFacts (Maybe g.row.O-Terms.Denot) = record { id = c.in-Ok-open.table.shared.table_id; terms = Some (g.O.Object.terms object); passes = g.O.Object.passes object; quota = g.O.Object.quota object } in
    let count_is : c.passes-count.result ≡ g.O.Object.passes object = c.passes-count.ensures.count ∙ ap g.O.Object.passes (sym c.in-Ok-open.ensures.ok.3) in
    new_passes cell c.deal.new.passes.items (c.deal.ensures ∙ ap (λ n. first_passes cell n) count_is)
