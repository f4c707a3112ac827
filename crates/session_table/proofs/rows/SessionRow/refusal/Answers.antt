use Rattle.session_table.proofs.VerdictLemmas.{is_refusal}
use Rattle.session_table.proofs.rows.SessionRow.refusal.Goals as goal

pub returns-clause-verdict : goal.returns-clause-verdict
returns-clause-verdict c = rw c.own_refusal.ensures (is_refusal c.args.self.now c.args.requests c.args.ask.now)
