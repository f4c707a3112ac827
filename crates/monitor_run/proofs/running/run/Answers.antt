use Rattle.std.proofs.Common.{◌≡◌, map, reverse, length, drop, sym, ap, subst, ◌∙◌, arith}
use Rattle.std.specs.List.{All, list_any}
use Rattle.otp_ledger.specs.Standing.{StandsFor}
use Rattle.outside.specs.Scene.{IsFresh}
use Rattle.std.proofs.lemmas.List.{length-map, length-reverse}
use Rattle.policy_model.specs.Journal.{kept_events}
use Rattle.service_model.specs.Service.{Service}
use Rattle.session_loop.specs.Stories.{is_accept_fault}
use Rattle.session_turns.specs.Passes.{IsHeldBy, OwnsAll}
use Rattle.turn_cell.specs.Facts.{AreAllPasses, AreNewPasses}
use Rattle.monitor_run.specs.Ran.{PlansStay, AllCountAsTold}
use Rattle.monitor_run.proofs.Gathered.{of_reverse, passes_back, plans_stay, put_back, ready_lent, run_ended, served_all, written_whole}
use Rattle.monitor_run.proofs.Promises.{BookSays, book_says, book_setup, run_promises, run_told}
use Rattle.monitor_run.proofs.running.run.Goals as goal

pub serve_all-requires-clause-ready : goal.serve_all-requires-clause-ready
serve_all-requires-clause-ready g c κs within = λ k d low lt.
    let service = g.T.Texts.service c.prepared.inside.texts.now in
    let made = c.prepared.invariant.0 in
    let workers = c.gather.new.workers.items in
    let all = subst (All (λ d. g.T.Texts.service d.replies.texts.now ≡ service)) (sym c.gather.ensures.desks) c.prepared.invariant.1 in
    let new = subst (AreNewPasses c.prepared.inside.cell) (sym c.gather.ensures.passes.1) made.new in
    let fresh = subst (All (IsFresh g.P.Post.scene g.P.Post.faults)) (sym c.gather.ensures.posts.1) c.requires.fresh in
    ready_lent service (λ w. g.T.Texts.service w.desk.replies.texts.now) c.prepared.inside.cell g.P.Post.scene g.P.Post.faults (λ w. w.post) (λ w. w.pass) workers c.deref_mut.result.now c.deref_mut.ensures.value
    (λ k d lt. (of_reverse (λ w. w.desk) (λ d. g.T.Texts.service d.replies.texts.now ≡ service) workers all k d lt)) new fresh (made.opened, made.cell.0, made.setup_is) made.cell.2 made.cell.1 k d lt

pub close_cell-requires-clause-all : goal.close_cell-requires-clause-all
close_cell-requires-clause-all g c κs within =
    let service = g.T.Texts.service c.prepared.inside.texts.now in
    let place = c.prepared.inside.cell in
    let made = c.prepared.invariant.0 in
    let old = c.gather.new.workers.items in
    let lent = c.deref_mut.result.now in
    let new = c.serve_all.new.workers in
    let all = subst (All (λ d. g.T.Texts.service d.replies.texts.now ≡ service)) (sym c.gather.ensures.desks) c.prepared.invariant.1 in
    let passes_new = subst (AreNewPasses place) (sym c.gather.ensures.passes.1) made.new in
    let fresh = subst (All (IsFresh g.P.Post.scene g.P.Post.faults)) (sym c.gather.ensures.posts.1) c.requires.fresh in
    let served = served_all service (λ w. g.T.Texts.service w.desk.replies.texts.now) place g.P.Post.scene g.P.Post.faults (λ w. w.post) (λ w. w.pass) (λ w. w.end) old lent new c.deref_mut.ensures.value c.serve_all.auto.workers passes_new fresh (λ k d lt. (of_reverse (λ w. w.desk) (λ d. g.T.Texts.service d.replies.texts.now ≡ service) old all k d lt)) c.serve_all.ensures.served in
    let len : c.gather.new.workers.len ≡ length new = let same = served.same in let whole = c.gather.new.workers.ok in omega (arith, same, whole) in
    let passes = put_back (λ w. w.pass) c.gather.new.passes.items c.part-accept_failed.new.passes.items old new c.gather.new.workers.len c.gather.ensures.passes.0 len c.part-accept_failed.ensures.passes in
    subst (AreAllPasses place) (sym passes) (passes_back service place g.P.Post.scene g.P.Post.faults (λ w. w.post) (λ w. w.pass) (λ w. w.end) old new served).0

pub close_cell-requires-clause-own : goal.close_cell-requires-clause-own
close_cell-requires-clause-own g c κs within =
    let service = g.T.Texts.service c.prepared.inside.texts.now in
    let place = c.prepared.inside.cell in
    let made = c.prepared.invariant.0 in
    let old = c.gather.new.workers.items in
    let lent = c.deref_mut.result.now in
    let new = c.serve_all.new.workers in
    let all = subst (All (λ d. g.T.Texts.service d.replies.texts.now ≡ service)) (sym c.gather.ensures.desks) c.prepared.invariant.1 in
    let passes_new = subst (AreNewPasses place) (sym c.gather.ensures.passes.1) made.new in
    let fresh = subst (All (IsFresh g.P.Post.scene g.P.Post.faults)) (sym c.gather.ensures.posts.1) c.requires.fresh in
    let served = served_all service (λ w. g.T.Texts.service w.desk.replies.texts.now) place g.P.Post.scene g.P.Post.faults (λ w. w.post) (λ w. w.pass) (λ w. w.end) old lent new c.deref_mut.ensures.value c.serve_all.auto.workers passes_new fresh (λ k d lt. (of_reverse (λ w. w.desk) (λ d. g.T.Texts.service d.replies.texts.now ≡ service) old all k d lt)) c.serve_all.ensures.served in
    let len : c.gather.new.workers.len ≡ length new = let same = served.same in let whole = c.gather.new.workers.ok in omega (arith, same, whole) in
    let passes = put_back (λ w. w.pass) c.gather.new.passes.items c.part-accept_failed.new.passes.items old new c.gather.new.workers.len c.gather.ensures.passes.0 len c.part-accept_failed.ensures.passes in
    subst (All OwnsAll) (sym passes) (passes_back service place g.P.Post.scene g.P.Post.faults (λ w. w.post) (λ w. w.pass) (λ w. w.end) old new served).1

pub returns-clause-promises : goal.returns-clause-promises
returns-clause-promises g c held faults told =
    let service = g.T.Texts.service c.prepared.inside.texts.now in
    let place = c.prepared.inside.cell in
    let made = c.prepared.invariant.0 in
    let old = c.gather.new.workers.items in
    let lent = c.deref_mut.result.now in
    let new = c.serve_all.new.workers in
    let all = subst (All (λ d. g.T.Texts.service d.replies.texts.now ≡ service)) (sym c.gather.ensures.desks) c.prepared.invariant.1 in
    let passes_new = subst (AreNewPasses place) (sym c.gather.ensures.passes.1) made.new in
    let fresh = subst (All (IsFresh g.P.Post.scene g.P.Post.faults)) (sym c.gather.ensures.posts.1) c.requires.fresh in
    let served = served_all service (λ w. g.T.Texts.service w.desk.replies.texts.now) place g.P.Post.scene g.P.Post.faults (λ w. w.post) (λ w. w.pass) (λ w. w.end) old lent new c.deref_mut.ensures.value c.serve_all.auto.workers passes_new fresh (λ k d lt. (of_reverse (λ w. w.desk) (λ d. g.T.Texts.service d.replies.texts.now ≡ service) old all k d lt)) c.serve_all.ensures.served in
    let len : c.gather.new.workers.len ≡ length new = let same = served.same in let whole = c.gather.new.workers.ok in omega (arith, same, whole) in
    let passes = put_back (λ w. w.pass) c.gather.new.passes.items c.part-accept_failed.new.passes.items old new c.gather.new.workers.len c.gather.ensures.passes.0 len c.part-accept_failed.ensures.passes in
    let book = c.close_cell.result in
    let posts = put_back (λ w. w.post) c.gather.new.posts.items c.part-accept_failed.new.posts.items old new c.gather.new.workers.len c.gather.ensures.posts.0 len c.part-accept_failed.ensures.posts in
    let failed = c.part-accept_failed.ensures.failed ∙ ap (list_any (λ w. is_accept_fault w.end)) (written_whole new (drop (length new) old) c.gather.new.workers.len len) in
    let said = book_says c.args.prepared.service.setup book held faults c.parts-core.ensures.kept (sym told ∙ sym (ap (λ p. p.opened) c.prepared.view_is) ∙ c.close_cell.ensures.cell) in
    let same : c.args.prepared.service ≡ service = sym (ap (λ p. p.service) c.prepared.view_is) in
    let says = subst (λ (s : Service). BookSays s.setup book.journal held book.held faults book.faults) same said in
    let ended = run_ended service place g.P.Post.scene g.P.Post.faults (λ w. w.post) (λ w. w.pass) (λ w. w.end) old new served book.journal says.run made.cell.1 (subst (All (IsHeldBy book.journal)) passes c.close_cell.ensures.passes) in
    let one_each : length (reverse (map (λ w. w.post) new)) ≡ service.setup.workers = length-reverse (map (λ w. w.post) new) ∙ length-map new (λ w. w.post) ∙ served.same ∙ sym (length-reverse (map (λ w. w.pass) old) ∙ length-map old (λ w. w.pass)) ∙ served.passes_new.0 ∙ made.cell.1 in
    run_told g.P.Post.scene g.P.Post.faults same failed c.parts-core.ensures.journal posts c.parts-core.ensures.log.0 c.parts-core.ensures.log.1 (run_promises service (list_any (λ w. is_accept_fault w.end) new) book.journal (reverse (map (λ w. w.post) new)) g.P.Post.scene g.P.Post.faults held book.held faults book.faults ended says c.parts-core.ensures.few one_each (subst (AllCountAsTold g.P.Post.scene g.P.Post.faults) (c.as_slice.ensures.value ∙ posts) c.count_as_told.ensures))

pub returns-clause-plans : goal.returns-clause-plans
returns-clause-plans g c =
    let service = g.T.Texts.service c.prepared.inside.texts.now in
    let place = c.prepared.inside.cell in
    let made = c.prepared.invariant.0 in
    let old = c.gather.new.workers.items in
    let lent = c.deref_mut.result.now in
    let new = c.serve_all.new.workers in
    let all = subst (All (λ d. g.T.Texts.service d.replies.texts.now ≡ service)) (sym c.gather.ensures.desks) c.prepared.invariant.1 in
    let passes_new = subst (AreNewPasses place) (sym c.gather.ensures.passes.1) made.new in
    let fresh = subst (All (IsFresh g.P.Post.scene g.P.Post.faults)) (sym c.gather.ensures.posts.1) c.requires.fresh in
    let served = served_all service (λ w. g.T.Texts.service w.desk.replies.texts.now) place g.P.Post.scene g.P.Post.faults (λ w. w.post) (λ w. w.pass) (λ w. w.end) old lent new c.deref_mut.ensures.value c.serve_all.auto.workers passes_new fresh (λ k d lt. (of_reverse (λ w. w.desk) (λ d. g.T.Texts.service d.replies.texts.now ≡ service) old all k d lt)) c.serve_all.ensures.served in
    let len : c.gather.new.workers.len ≡ length new = let same = served.same in let whole = c.gather.new.workers.ok in omega (arith, same, whole) in
    let posts = put_back (λ w. w.post) c.gather.new.posts.items c.part-accept_failed.new.posts.items old new c.gather.new.workers.len c.gather.ensures.posts.0 len c.part-accept_failed.ensures.posts in
    subst (λ ps. PlansStay g.P.Post.scene ps c.part-accept_failed.new.posts.items) c.gather.ensures.posts.1 (subst (PlansStay g.P.Post.scene (reverse (map (λ w. w.post) old))) (sym posts) (plans_stay service place g.P.Post.scene g.P.Post.faults (λ w. w.post) (λ w. w.pass) (λ w. w.end) old new served))

pub returns-clause-setup : goal.returns-clause-setup
returns-clause-setup g c =
    let made = c.prepared.invariant.0 in
    ap (λ core. core.ledger.setup) c.parts-core.ensures.core ∙ sym (book_setup made.opened c.close_cell.result (sym made.cell.0 ∙ c.close_cell.ensures.cell)) ∙ made.setup_is ∙ ap (λ p. p.service.setup) c.prepared.view_is

pub returns-clause-ledger : goal.returns-clause-ledger
returns-clause-ledger g c =
    let kept = c.parts-core.ensures.kept in
    subst (λ j. StandsFor c.parts-core.result.0.ledger (kept_events j)) (sym c.parts-core.ensures.journal) (subst (λ core. StandsFor core.ledger (kept_events c.close_cell.result.journal)) (sym c.parts-core.ensures.core) kept.history.stands.accounts)
