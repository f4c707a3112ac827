use Rattle.std.proofs.Common.{◌+◌, ◌∙◌, ap, refl}
use Rattle.std.specs.Prelude.{None, is_some}
use Rattle.decision_log.specs.Logged.{logged_value}
use Rattle.ledger_journal.specs.Reads.{bad_after}
use Rattle.ledger_journal.proofs.ReadLemmas.{line_none, line_some, read_ok, read_on}
use Rattle.ledger_journal.proofs.reading.Log.read.Goals as goal

pub returns-in-Some : goal.returns-in-Some
returns-in-Some c = λ records r.
    read_ok c.args.setup.now records c.args.bytes.now (logged_value c.in-Some.line) c.args.self.now c.add.new.self c.add.result r
    (line_some (c.args.self.now.count + 1) c.args.bytes.now c.line_at-line.result c.in-Some.line c.line_at-line.ensures c.in-Some.is)
    c.add.ensures.count
    (c.add.ensures.bad ∙ c.first_bad-self.ensures ∙ ap (bad_after c.args.self.now.bad (c.args.self.now.count + 1)) (c.is_some.ensures ∙ ap is_some c.in-Some.is))
    c.add.ensures.logins
    c.add.ensures.takings

pub returns-in-None : goal.returns-in-None
returns-in-None c = λ records r.
    read_on c.args.setup.now records c.args.bytes.now None c.args.self.now (record { count = c.args.self.now.count + 1; bad = c.first_bad-self.result; takings = c.args.self.now.takings; logins = c.args.self.now.logins }) r
    (line_none (c.args.self.now.count + 1) c.args.bytes.now c.line_at-line.result c.line_at-line.ensures c.in-None.is)
    refl
    (c.first_bad-self.ensures ∙ ap (bad_after c.args.self.now.bad (c.args.self.now.count + 1)) (c.is_some.ensures ∙ ap is_some c.in-None.is))
    (refl, refl)
