use Rattle.std.proofs.Common.{ap, map, subst, ◌∙◌, ◌≡◌, sym, Option, Some}
use Rattle.monitor_book.specs.declared.opened.Held.{Held}
use Rattle.monitor_book.specs.declared.opened.Opened.{Opened}
use Rattle.monitor_book.specs.Lines.{held_by}
use Rattle.monitor_run.specs.Headline.{RunPromises}
use Rattle.monitor_run.specs.Posts.{seen}
use Rattle.outside_memory.specs.MemPost.{faults_of, scene_of}
use Rattle.outside_memory.specs.declared.sink.MemSink.{MemSink}
use Rattle.outside_memory.specs.MemSink.{faults_of as log_faults, held_of, lengths_of}
use Rattle.service_model.specs.Service.{Service}
use Rattle.welcome_rows.specs.Shown.{service_by}
use Rattle.welcome_rows.proofs.Posts.{all_fresh, plans_kept}
use Rattle.welcome_rows.proofs.serving.serve.Goals as goal

pub run-journal-requires-clause-fresh : goal.run-journal-requires-clause-fresh
run-journal-requires-clause-fresh g c κs within = all_fresh c.args.visits.now c.in_ok-posts.posts.items
    c.in_ok-posts.ensures

pub returns : goal.returns
returns g c =
    let service : Service = service_by c.args.house.now.setup c.args.house.now.dictionary in
    let ran = c.run-journal.result in
    let log = c.in_ok-log.log in
    let same : c.in-Ok.prepared.service ≡ service = c.in-Ok.ensures.service in
    let held : MemSink → Held = held_by held_of lengths_of in
    let opened : Service → Option Opened = λ s. Some (record {
      setup = s.setup;
      held = held log;
      faults =
          log_faults log;
    }) in
    let promises = c.run-journal.ensures.promises (held log) (log_faults log)
    (c.in-Ok.ensures.opened ∙ ap opened (sym same)) in
    let kept = subst (λ (s : Service). RunPromises s ran.accept_failed ran.journal.items
    (map (seen scene_of faults_of) ran.posts.items)
    (held log) (held ran.log) (log_faults log) (log_faults ran.log)) same promises in
    record {
      in_range = c.workers.ensures.in_range;
      legal = kept.legal;
      conversations = kept.conversations;
      plans = plans_kept c.args.visits.now c.in_ok-posts.posts.items ran.posts.items c.in_ok-posts.ensures
          c.run-journal.ensures.plans;
    }
