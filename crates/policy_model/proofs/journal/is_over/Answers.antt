use Rattle.std.proofs.Common.{◌==◌, refl}
use Rattle.policy_model.specs.Asks.{ends_session, opens}
use Rattle.policy_model.proofs.Lists.{list_any-filter}
use Rattle.policy_model.proofs.journal.is_over.Goals as goal

pub returns-then-not-was_opened : goal.returns-then-not-was_opened
returns-then-not-was_opened c =
    rw (list_any-filter opens (λ e. e.session == c.args.session) c.args.journal.now, list_any-filter ends_session (λ e. e.session == c.args.session) c.args.journal.now, ← c.was_opened.ensures, c.if-not-was_opened.true) refl

pub returns-else-not-was_opened : goal.returns-else-not-was_opened
returns-else-not-was_opened c =
    rw (list_any-filter opens (λ e. e.session == c.args.session) c.args.journal.now, list_any-filter ends_session (λ e. e.session == c.args.session) c.args.journal.now, ← c.was_opened.ensures, c.if-not-was_opened.false) c.has_ended.ensures
