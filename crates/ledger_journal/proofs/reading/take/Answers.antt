use Rattle.ledger_journal.proofs.ReadLemmas.{taken_by}
use Rattle.ledger_journal.proofs.reading.take.Goals as goal

pub returns-in_ok-insert : goal.returns-in_ok-insert
returns-in_ok-insert c =
    taken_by c.args.setup.now c.args.line.now c.in-Challenge.user c.in-Challenge.now c.in-Permit.value c.account_taken.result c.args.takings.now c.insert.new.self c.in-Challenge.is c.in-Permit.is c.account_taken.ensures.taken c.in_ok-insert.ensures.updates.0
