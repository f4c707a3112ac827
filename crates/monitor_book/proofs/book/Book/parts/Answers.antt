use Rattle.std.proofs.Common.{subst}
use Rattle.policy_laws.proofs.Alike.{shows_no_accounts}
use Rattle.session_core.specs.Parts.{setup_of}
use Rattle.session_core.proofs.ReplayLemmas.{consequences}
use Rattle.monitor_book.specs.Kept.{IsBook}
use Rattle.monitor_book.proofs.HistoryLemmas.{book_few}
use Rattle.monitor_book.proofs.book.Book.parts.Goals as goal

pub returns-clause-few : goal.returns-clause-few
returns-clause-few g c = book_few c.args.self (subst IsBook c.self.view_is c.self.invariant.0)

pub returns-clause-consequences : goal.returns-clause-consequences
returns-clause-consequences g c =
    let kept : IsBook c.args.self = subst IsBook c.self.view_is c.self.invariant.0 in
    consequences (setup_of c.args.self.core) c.args.self.journal kept.history.run.legal

pub returns-clause-unseen : goal.returns-clause-unseen
returns-clause-unseen g c =
    let kept : IsBook c.args.self = subst IsBook c.self.view_is c.self.invariant.0 in
    shows_no_accounts (setup_of c.args.self.core) c.args.self.journal kept.history.run.legal
