use Rattle.session_table.proofs.RowLemmas.{stands_after}
use Rattle.session_table.proofs.rows.SessionRow.advance.Goals as goal

pub returns-clause-stands : goal.returns-clause-stands
returns-clause-stands c =
    rw (c.account_after-self.ensures, c.phase_after-self.ensures, c.advance.ensures, c.count_after-self.ensures, c.came_by_frame.ensures, c.count_after-self-2.ensures, c.is_denied_reply.ensures, c.advance-2.ensures)
    (stands_after c.args.self.now c.args.event.now c.args.account c.args.grant)
