use Rattle.std.proofs.Common.{◌==◌, arith}
use Rattle.monitor_book.specs.Kept.{worker_of}
use Rattle.monitor_book.proofs.HistoryLemmas.{filter_few}
use Rattle.serving_tests.proofs.books.enter.Goals as goal

pub apply-event-requires-clause-quota : goal.apply-event-requires-clause-quota
apply-event-requires-clause-quota c =
    let few = filter_few (λ e. worker_of e == c.args.step.now.worker) c.args.book.now.journal in
    omega (arith, few, c.events_of.ensures, c.quota.ensures, c.if-events_of-quota.false)
