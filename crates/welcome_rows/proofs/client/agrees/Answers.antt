use Rattle.std.proofs.Common.{inl, inr, sym, ◌∙◌}
use Rattle.welcome_rows.proofs.Acts.{starts}
use Rattle.welcome_rows.proofs.client.agrees.Goals as goal

pub returns-then-starts_with : goal.returns-then-starts_with
returns-then-starts_with c = λ yes. inl (starts c.args.lines.now c.args.said.now (sym c.starts_with.ensures.value
    ∙ yes))

pub returns-else-starts_with : goal.returns-else-starts_with
returns-else-starts_with c =
    λ yes. inr (starts c.args.said.now c.args.lines.now (sym c.starts_with-else-starts_with.ensures.value ∙ yes))
