use Rattle.service_rows.proofs.Saying.{told_said}
use Rattle.service_rows.proofs.children.said_by.Goals as goal

pub returns : goal.returns
returns c =
    told_said _ _ _ _ _ _ _ _ c.in_ok-link.ensures.link c.run_child-end.ensures.run
    (c.has_failed.ensures c.if-has_failed.false) (c.tells.ensures.0 (search (c.if-not-tells.false))) c.sent.ensures
    c.in_ok-said.ensures.items
