use Rattle.std.proofs.Common.{◌≡◌, map, sym, ap, subst}
use Rattle.monitor_book.specs.Lines.{IsUnwritten, held_by}
use Rattle.monitor_book.proofs.LogLemmas.{unwritten}
use Rattle.monitor_run.specs.Headline.{RunPromises}
use Rattle.monitor_run.specs.Posts.{seen}
use Rattle.outside.specs.FilesNow.{files_now}
use Rattle.outside.specs.Told.{Rose}
use Rattle.outside.proofs.Told.{Gains-none}
use Rattle.service_model.specs.Service.{Service}
use Rattle.serve_mode.proofs.StillLemmas.{IsServiceOf, read_by, read_is, ready_by}
use Rattle.serve_mode.specs.AroundRun.{around_run}
use Rattle.serve_mode.specs.Commands.{source_of}
use Rattle.setup_reading.proofs.Touching.{touches_reads, touches_then}
use Rattle.serve_mode.specs.Words.{files_of, setups_of}
use Rattle.serve_mode.specs.Steps.{RunEnded, service_by}
use Rattle.serve_mode.proofs.Promises.{not_served_why, served_ended, told_before, unready_why, unserved_ended, writes_more}
use Rattle.serve_mode.proofs.run.run_serve.Goals as goal

-- somebody was served
pub returns-in-Ok-serve-clause-ended : goal.returns-in-Ok-serve-clause-ended
returns-in-Ok-serve-clause-ended g c =
    let now = files_now g.F.Files.contents g.F.Files.read_faults g.F.Files.replace_faults g.F.Files.touched in
    let see = seen g.S.Post.Post.scene g.S.Post.Post.faults in
    let source = source_of c.args.command.now in
    let forms = g.I.Information.forms c.args.information.now in
    let house = c.in-Ok.house in
    let old = g.F.Files.contents c.args.files.now in
    let mid = g.F.Files.contents c.make_ready.new.files in
    let new = g.F.Files.contents c.finish.new.files in
    let ran = c.in-Ok-serve.ran in
    let journal = ran.journal.items in
    let done = c.finish.result in
    let finished = c.finish.ensures.finished in
    let written = finished.written in
    let service = service_by house.setup house.dictionary forms in
    let first = g.F.Files.replace_faults c.args.files.now in
    let last = g.F.Files.replace_faults c.finish.new.files in
    let before = around_run (now c.args.files.now) (g.S.Site.listens c.args.site.now) (g.S.Site.listen_faults c.args.site.now) (held_by g.K.Sink.held g.K.Sink.lengths c.args.log) (g.K.Sink.faults c.args.log) in
    let held = held_by g.K.Sink.held g.K.Sink.lengths in
    let files = now c.finish.new.files in
    let listens = g.S.Site.listens c.serve.new.site in
    let unheard = g.S.Site.listen_faults c.serve.new.site in
    let writes = writes_more source house.setup ran.core.ledger mid new first (g.F.Files.replace_faults c.make_ready.new.files) last written c.make_ready.ensures.files.reads.replace_faults finished.writes in
    let promises = subst (λ i. RunPromises (service_by house.setup house.dictionary (g.I.Information.forms i)) ran.accept_failed journal (map see ran.posts.items) (held_by g.K.Sink.held g.K.Sink.lengths c.args.log) (held_by g.K.Sink.held g.K.Sink.lengths ran.log) (g.K.Sink.faults c.args.log) (g.K.Sink.faults ran.log)) c.in-Ok.ensures.information c.in-Ok-serve.ensures.promises in
    let telling = told_before source house.setup ran.core.ledger mid new (Rose first last) written writes in
    let same : (other : Service) → IsServiceOf source forms old new other → other ≡ service = λ other. read_is source forms old mid new house.setup house.dictionary other c.in-Ok.ensures.read c.make_ready.ensures.files.reads.kept telling in
    let by = read_by source forms old mid new house.setup house.dictionary c.in-Ok.ensures.read c.in-Ok.ensures.fresh c.make_ready.ensures.files.reads.kept telling in
    let ended = served_ended source service ran.core.ledger written ran.accept_failed journal (map see ran.posts.items) before (around_run files listens unheard (held ran.log) (g.K.Sink.faults ran.log)) mid promises writes
    forms done.end finished.ended by same c.in-Ok-serve.ensures.some c.in-Ok-serve.ensures.ledger c.make_ready.ensures.files.reads.kept c.in-Ok-serve.ensures.listens in
    let by_journal = subst (λ j. RunEnded source forms done.end j.items (map see ran.posts.items) before (around_run files listens unheard (held ran.log) (g.K.Sink.faults ran.log))) (sym c.finish.ensures.journal) ended in
    let by_posts = subst (λ p. RunEnded source forms done.end done.journal.items (map see p.items) before (around_run files listens unheard (held ran.log) (g.K.Sink.faults ran.log))) (sym c.finish.ensures.posts) by_journal in
    subst (λ l. RunEnded source forms done.end done.journal.items (map see done.posts.items) before (around_run files listens unheard (held l) (g.K.Sink.faults l))) (sym c.finish.ensures.log) by_posts

-- out of memory, or the site could not listen
pub returns-in-Ok-clause-ended : goal.returns-in-Ok-clause-ended
returns-in-Ok-clause-ended g c =
    let now = files_now g.F.Files.contents g.F.Files.read_faults g.F.Files.replace_faults g.F.Files.touched in
    let see = seen g.S.Post.Post.scene g.S.Post.Post.faults in
    let source = source_of c.args.command.now in
    let forms = g.I.Information.forms c.args.information.now in
    let old = g.F.Files.contents c.args.files.now in
    let mid = g.F.Files.contents c.make_ready.new.files in
    let held = held_by g.K.Sink.held g.K.Sink.lengths in
    let before = around_run (now c.args.files.now) (g.S.Site.listens c.args.site.now) (g.S.Site.listen_faults c.args.site.now) (held c.args.log) (g.K.Sink.faults c.args.log) in
    let after = around_run (now c.make_ready.new.files) (g.S.Site.listens c.serve.new.site) (g.S.Site.listen_faults c.serve.new.site) (held c.unserved.result.log) (g.K.Sink.faults c.unserved.result.log) in
    let ReadRose = Rose before.files.read_faults after.files.read_faults in
    let ListenRose = Rose before.listen_faults after.listen_faults in
    let unserved = c.unserved.ensures in
    let none = c.in-Err-serve.ensures.error in
    let trouble = c.in-Err-serve.trouble in
    let house = c.in-Ok.house in
    let ready = ready_by source forms mid house.setup house.dictionary c.in-Ok.ensures.read c.in-Ok.ensures.fresh in
    unserved_ended source forms trouble c.unserved.result.end c.unserved.result.journal.items (map see c.unserved.result.posts.items) before after
    unserved.end (not_served_why source forms old mid ReadRose ListenRose trouble ready none.why) unserved.journal (ap (map see) unserved.posts) c.make_ready.ensures.files.reads.kept none.listens (subst (λ l. IsUnwritten (held c.args.log) (held l)) (sym unserved.log) none.log.held)

-- nothing was read to serve with
pub returns-clause-ended : goal.returns-clause-ended
returns-clause-ended g c =
    let now = files_now g.F.Files.contents g.F.Files.read_faults g.F.Files.replace_faults g.F.Files.touched in
    let see = seen g.S.Post.Post.scene g.S.Post.Post.faults in
    let source = source_of c.args.command.now in
    let forms = g.I.Information.forms c.args.information.now in
    let old = g.F.Files.contents c.args.files.now in
    let mid = g.F.Files.contents c.make_ready.new.files in
    let held = held_by g.K.Sink.held g.K.Sink.lengths in
    let listens = g.S.Site.listens c.args.site.now in
    let before = around_run (now c.args.files.now) listens (g.S.Site.listen_faults c.args.site.now) (held c.args.log) (g.K.Sink.faults c.args.log) in
    let after = around_run (now c.make_ready.new.files) listens (g.S.Site.listen_faults c.args.site.now) (held c.unserved-in-Err.result.log) (g.K.Sink.faults c.unserved-in-Err.result.log) in
    let ReadRose = Rose before.files.read_faults after.files.read_faults in
    let ListenRose = Rose before.listen_faults after.listen_faults in
    let unserved = c.unserved-in-Err.ensures in
    let trouble = c.in-Err.trouble in
    unserved_ended source forms trouble c.unserved-in-Err.result.end c.unserved-in-Err.result.journal.items (map see c.unserved-in-Err.result.posts.items) before after
    unserved.end (unready_why source forms old mid ReadRose ListenRose trouble (c.make_ready.ensures.trouble trouble c.in-Err.is) c.make_ready.ensures.files.reads.kept) unserved.journal (ap (map see) unserved.posts) c.make_ready.ensures.files.reads.kept (Gains-none listens) (subst (λ l. IsUnwritten (held c.args.log) (held l)) (sym unserved.log) (unwritten (held c.args.log)))

pub returns-in-Ok-serve-clause-files : goal.returns-in-Ok-serve-clause-files
returns-in-Ok-serve-clause-files g c =
    let now = files_now g.F.Files.contents g.F.Files.read_faults g.F.Files.replace_faults g.F.Files.touched in
    let source = source_of c.args.command.now in
    touches_then (files_of source) (setups_of source) (setups_of source) (now c.args.files.now) (now c.make_ready.new.files) (now c.finish.new.files) c.make_ready.ensures.files c.finish.ensures.files

pub returns-in-Ok-clause-files : goal.returns-in-Ok-clause-files
returns-in-Ok-clause-files g c =
    let now = files_now g.F.Files.contents g.F.Files.read_faults g.F.Files.replace_faults g.F.Files.touched in
    let source = source_of c.args.command.now in
    touches_reads (files_of source) (setups_of source) (setups_of source) (now c.args.files.now) (now c.make_ready.new.files) c.make_ready.ensures.files

pub returns-clause-files : goal.returns-clause-files
returns-clause-files g c =
    let now = files_now g.F.Files.contents g.F.Files.read_faults g.F.Files.replace_faults g.F.Files.touched in
    let source = source_of c.args.command.now in
    touches_reads (files_of source) (setups_of source) (setups_of source) (now c.args.files.now) (now c.make_ready.new.files) c.make_ready.ensures.files
