use Rattle.std.proofs.Common.{◌≡◌, ap, subst, ◌∙◌, arith}
use Rattle.otp_ledger.specs.Accounts.{LedgerParts}
use Rattle.policy_model.specs.Settings.{IsInRange, Settings, events_max}
use Rattle.session_core.specs.Parts.{setup_of}
use Rattle.monitor_book.specs.Lines.{held_by}
use Rattle.monitor_book.proofs.HistoryLemmas.{history_none}
use Rattle.monitor_book.proofs.LogLemmas.{logged_none}
use Rattle.monitor_book.proofs.book.Book.new.Goals as goal

pub invariant_of-result : goal.invariant_of-result
invariant_of-result g c =
    let setup : c.setup.result.now ≡ setup_of c.args.core = c.setup.ensures.value ∙ ap (λ (l : LedgerParts). l.setup) c.ledger.ensures in
    let range : IsInRange (setup_of c.args.core) = subst IsInRange setup c.events_max.ensures.in_range in (
      rw (c.of-opened.ensures, c.in-Ok.ensures.items) (record { history = history_none c.args.core range c.requires.fresh c.requires.sessions; logged = logged_none (setup_of c.args.core) (held_by g.K.Sink.held g.K.Sink.lengths c.args.log) (g.K.Sink.faults c.args.log) }),
      omega (arith, c.events_max.ensures.value, ap (λ (s : Settings). events_max s) setup, c.in-Ok.ensures.capacity),
    )
