use Rattle.std.proofs.Common.{length}
use Rattle.audit_check.specs.declared.answer.Audit.TheVariants as audits
use Rattle.audit_check.proofs.Journals.{journal_answer}
use Rattle.audit_check.proofs.OneAnswer.{one_ok, yes_of}
use Rattle.audit_check.proofs.auditing.audit.Goals as goal

pub returns-clause-exact : goal.returns-clause-exact
returns-clause-exact c = λ answer is. one_ok c.args.setup.now c.args.text.now c.read_log.result c.read_log.ensures answer is

pub returns-clause-runs : goal.returns-clause-runs
returns-clause-runs c =
    journal_answer c.args.setup.now c.args.text.now c.read_log.result
    (λ events log. one_ok c.args.setup.now c.args.text.now c.read_log.result c.read_log.ensures (audits.Yes (length events)) (yes_of c.args.setup.now c.args.text.now events log))
