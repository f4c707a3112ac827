use Rattle.std.proofs.Common.{ℕ, map, Option, Some, sym, ap, subst, ◌∙◌}
use Rattle.monitor_book.specs.declared.opened.Held.{Held}
use Rattle.monitor_book.specs.declared.opened.Opened.{Opened}
use Rattle.monitor_book.specs.Lines.{held_by}
use Rattle.monitor_run.specs.Headline.{RunPromises}
use Rattle.monitor_run.specs.Posts.{seen}
use Rattle.service_model.specs.Service.{Service}
use Rattle.serve_mode.proofs.serving.serve.Goals as goal

pub returns-in-Ok-listen-clause-promises : goal.returns-in-Ok-listen-clause-promises
returns-in-Ok-listen-clause-promises g c =
    let held : Held = held_by g.K.Sink.held g.K.Sink.lengths c.args.log in
    let faults : ℕ = g.K.Sink.faults c.args.log in
    let same = c.in-Ok-prepare.ensures.service in
    let opened : Service → Option Opened = λ s. Some (record { setup = s.setup; held = held; faults = faults }) in
    subst (λ s. RunPromises s c.run.result.accept_failed c.run.result.journal.items (map (seen g.S.Post.Post.scene g.S.Post.Post.faults) c.run.result.posts.items) held (held_by g.K.Sink.held g.K.Sink.lengths c.run.result.log) faults (g.K.Sink.faults c.run.result.log)) same
    (c.run.ensures.promises held faults (c.in-Ok-prepare.ensures.opened ∙ ap opened (sym same)))
