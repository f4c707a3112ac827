use Rattle.std.proofs.Common.{ap, subst, ◌∙◌}
use Rattle.welcome_rows.specs.Met.{AcceptsAfter, line_count}
use Rattle.welcome_rows.proofs.journal.tells_each_line.Goals as goal

pub returns-else-not-visit : goal.returns-else-not-visit
returns-else-not-visit c =
    λ yes wants. subst (AcceptsAfter c.args.journal.now) (c.line_count.ensures ∙ ap line_count c.as_slice.ensures)
    (c.accepts_after.ensures yes)
