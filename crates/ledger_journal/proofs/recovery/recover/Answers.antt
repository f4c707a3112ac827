use Rattle.std.proofs.Common.{Err, subst}
use Rattle.std.proofs.lemmas.Result.{err_from_is_err_and}
use Rattle.ledger_journal.specs.Journals.{records_of}
use Rattle.ledger_journal.specs.Reads.{IsRead}
use Rattle.ledger_journal.proofs.BackLemmas.{again, back, error_exact, error_or, log_or}
use Rattle.ledger_journal.proofs.ImageLemmas.{one_list}
use Rattle.ledger_journal.proofs.recovery.recover.Goals as goal

pub returns-clause-log : goal.returns-clause-log
returns-clause-log c =
    let log = c.in_ok-log.ensures in
    log_or c.args.setup.now c.args.image.now log.records c.answer_of.result log.has (c.answer_of.ensures log.records log.read)

pub returns-clause-exact : goal.returns-clause-exact
returns-clause-exact c = λ records has.
    let log = c.in_ok-log.ensures in
    c.answer_of.ensures records (subst (λ l. IsRead c.args.setup.now l c.in_ok-log.log) (one_list c.args.image.now log.records records log.has has) log.read)

pub returns-clause-back : goal.returns-clause-back
returns-clause-back c = λ journal whole has.
    let log = c.in_ok-log.ensures in
    back c.args.setup.now journal c.answer_of.result whole
    (c.answer_of.ensures (records_of journal) (subst (λ l. IsRead c.args.setup.now l c.in_ok-log.log) (one_list c.args.image.now log.records (records_of journal) log.has has) log.read))

pub returns-clause-again : goal.returns-clause-again
returns-clause-again c = λ first journal whole after has.
    let log = c.in_ok-log.ensures in
    again first c.args.setup.now journal after whole c.answer_of.result
    (c.answer_of.ensures (records_of journal) (subst (λ l. IsRead c.args.setup.now l c.in_ok-log.log) (one_list c.args.image.now log.records (records_of journal) log.has has) log.read))

pub returns-in_err-log-clause-log : goal.returns-in_err-log-clause-log
returns-in_err-log-clause-log c =
    let p = err_from_is_err_and c.from_residual.result c.from_residual.ensures.1 in
    rw (p.1, p.2) (error_or c.args.image.now c.in_err-log.field-0.0 c.in_err-log.ensures)

pub returns-in_err-log-clause-exact : goal.returns-in_err-log-clause-exact
returns-in_err-log-clause-exact c = λ records has.
    let p = err_from_is_err_and c.from_residual.result c.from_residual.ensures.1 in
    rw (p.1, p.2) (error_exact c.args.setup.now c.args.image.now records c.in_err-log.field-0.0 c.in_err-log.ensures has)

pub returns-in_err-log-clause-back : goal.returns-in_err-log-clause-back
returns-in_err-log-clause-back c = λ journal whole has.
    let p = err_from_is_err_and c.from_residual.result c.from_residual.ensures.1 in
    rw (p.1, p.2) (back c.args.setup.now journal (Err c.in_err-log.field-0.0) whole (error_exact c.args.setup.now c.args.image.now (records_of journal) c.in_err-log.field-0.0 c.in_err-log.ensures has))

pub returns-in_err-log-clause-again : goal.returns-in_err-log-clause-again
returns-in_err-log-clause-again c = λ first journal whole after has.
    let p = err_from_is_err_and c.from_residual.result c.from_residual.ensures.1 in
    rw (p.1, p.2) (again first c.args.setup.now journal after whole (Err c.in_err-log.field-0.0) (error_exact c.args.setup.now c.args.image.now (records_of journal) c.in_err-log.field-0.0 c.in_err-log.ensures has))
