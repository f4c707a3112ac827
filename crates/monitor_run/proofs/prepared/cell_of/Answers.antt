use Rattle.std.proofs.Common.{ap, ◌∙◌}
use Rattle.monitor_book.specs.Kept.{BookParts}
use Rattle.monitor_run.proofs.Kept.{log_same}
use Rattle.monitor_run.proofs.prepared.cell_of.Goals as goal

pub returns-in-Err-clause-back : goal.returns-in-Err-clause-back
returns-in-Err-clause-back g c =
    let same = c.in-Err.ensures.back in
    let made = c.in_ok-book.ensures in
    log_same _ _ _ _ (c.log_of.ensures.held ∙ ap (λ (b : BookParts). b.held) same ∙ made.held.1) (c.log_of.ensures.faults ∙ ap (λ (b : BookParts). b.faults) same ∙ made.faults.1)
