use Rattle.std.proofs.Common.{◌≡◌, ℕ, true, List, [], map, Option, None, Some, sym, ap, subst, ◌∙◌}
use Rattle.std.specs.List.{list_all}
use Rattle.monitor_book.specs.declared.opened.Opened.{Opened}
use Rattle.monitor_run.specs.Headline.{RunPromises}
use Rattle.monitor_run.specs.Posts.{seen}
use Rattle.outside_memory.specs.QuietPost.{faults_of, scene_of}
use Rattle.outside_memory.specs.QuietSink.{held_of}
use Rattle.service_model.specs.Service.{Service}
use Rattle.drill_mode.specs.Posts.{tells_whole}
use Rattle.drill_mode.specs.Services.{service_by}
use Rattle.drill_mode.proofs.DrillLemmas.{drilled, new_fresh}
use Rattle.drill_mode.proofs.drilling.drill.Goals as goal

pub run-journal-requires-clause-fresh : goal.run-journal-requires-clause-fresh
run-journal-requires-clause-fresh g c κs within = new_fresh c.args.n c.in_ok-posts.posts.items c.in_ok-posts.ensures.each

pub returns-then-tell_whole : goal.returns-then-tell_whole
returns-then-tell_whole g c =
    let service : Service = service_by c.in_ok-house.house.setup c.in_ok-house.house.dictionary in
    let ran = c.run-journal.result in
    let same : c.in-Ok.prepared.service ≡ service = c.in-Ok.ensures.service in
    let opened : Service → Option (List ℕ) → Option Opened = λ s bytes. Some (record { setup = s.setup; held = record { bytes = bytes; lengths = None }; faults = 0 }) in
    let promises = c.run-journal.ensures.promises (record { bytes = Some []; lengths = None }) 0 (c.in-Ok.ensures.opened ∙ ap (opened service) c.in_ok-log.ensures.held ∙ ap (λ s. opened s (Some [])) (sym same)) in
    let whole : list_all (λ post. tells_whole (scene_of post)) ran.posts.items ≡ true = ap (list_all (λ post. tells_whole (scene_of post))) (sym c.deref.ensures.value) ∙ sym c.tell_whole.ensures ∙ c.if-tell_whole.true in
    drilled c.args.n service ran.accept_failed (held_of ran.log) ran.journal.items c.in_ok-posts.posts.items ran.posts.items c.in_ok-house.ensures c.in_ok-posts.ensures.count c.in_ok-posts.ensures.each c.run-journal.ensures.plans whole (c.tells.ensures.0 c.if-tells.true)
    (subst (λ s. RunPromises s ran.accept_failed ran.journal.items (map (seen scene_of faults_of) ran.posts.items) (record { bytes = Some []; lengths = None }) (record { bytes = held_of ran.log; lengths = None }) 0 0) same promises)
