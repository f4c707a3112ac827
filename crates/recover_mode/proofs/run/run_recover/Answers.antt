use Rattle.std.proofs.Common.{ℕ, List, ◌∷◌, [], arith, refl, subst}
use Rattle.std.proofs.lemmas.Result.{err_from_is_err_and}
use Rattle.outside.specs.FilesNow.{files_now}
use Rattle.setup_reading.specs.Touching.{OnlyReplaces}
use Rattle.setup_reading.proofs.Touching.{reads_only, touches_reads, touches_then}
use Rattle.recover_mode.specs.Words.{names_of}
use Rattle.outside.proofs.Told.{Rose-within}
use Rattle.recover_mode.specs.Commands.{command_parts}
use Rattle.recover_mode.proofs.ReturnLemmas.{BringsBack-of}
use Rattle.recover_mode.proofs.RunLemmas.{IsOutcome-log, IsOutcome-put, IsOutcome-spares, IsOutcome-unread, IsOutcome-unwritten}
use Rattle.recover_mode.proofs.run.run_recover.Goals as goal

pub returns-in_err-basis-clause-outcome : goal.returns-in_err-basis-clause-outcome
returns-in_err-basis-clause-outcome g c =
    let trouble = c.in_err-basis.field-0.0 in
    let p = err_from_is_err_and c.from_residual.result c.from_residual.ensures.1 in
    rw (p.1, p.2) (IsOutcome-unread (command_parts c.args.command.now) (g.F.Files.contents c.args.files.now) (g.F.Files.contents c.read_basis.new.files) (g.E.Stream.link c.args.ends.now) _ _ _ trouble (c.in_err-basis.ensures.trouble trouble refl) c.in_err-basis.ensures.files.kept)

pub returns-in_err-basis-clause-back : goal.returns-in_err-basis-clause-back
returns-in_err-basis-clause-back g c = BringsBack-of (command_parts c.args.command.now) _ _ _ _ _ _ _ c.from_residual.result (returns-in_err-basis-clause-outcome g c)

pub returns-in_err-texts-clause-outcome : goal.returns-in_err-texts-clause-outcome
returns-in_err-texts-clause-outcome g c =
    let contents = g.F.Files.contents in
    let basis = c.in_ok-basis.basis in
    let trouble = c.in_err-texts.field-0.0 in
    let p = err_from_is_err_and c.from_residual-in_err-texts.result c.from_residual-in_err-texts.ensures.1 in
    rw (p.1, p.2) (IsOutcome-log (command_parts c.args.command.now) basis.setup basis.image.items (contents c.args.files.now) (contents c.read_basis.new.files) (g.E.Stream.link c.args.ends.now) _ _ _ trouble c.in_ok-basis.ensures.files.kept c.in_ok-basis.ensures.basis (c.in_err-texts.ensures.trouble trouble refl))

pub returns-in_err-texts-clause-back : goal.returns-in_err-texts-clause-back
returns-in_err-texts-clause-back g c = BringsBack-of (command_parts c.args.command.now) _ _ _ _ _ _ _ c.from_residual-in_err-texts.result (returns-in_err-texts-clause-outcome g c)

pub returns-clause-outcome : goal.returns-clause-outcome
returns-clause-outcome g c =
    let contents = g.F.Files.contents in
    let faults = g.F.Files.replace_faults in
    let link = g.E.Stream.link in
    let basis = c.in_ok-basis.basis in
    IsOutcome-put (command_parts c.args.command.now) basis.setup basis.image.items c.in_ok-texts.texts _ _ _ (contents c.args.files.now) (contents c.read_basis.new.files) (contents c.put.new.files) (link c.args.ends.now) (link c.put.new.ends) _ c.put.result c.in_ok-basis.ensures.files.kept c.in_ok-basis.ensures.basis (λ rose. Rose-within (faults c.args.files.now) (faults c.read_basis.new.files) (faults c.put.new.files) (faults c.put.new.files) c.in_ok-basis.ensures.files.replace_faults rose (omega arith)) c.in_ok-texts.ensures.texts c.put.ensures.put

pub returns-clause-back : goal.returns-clause-back
returns-clause-back g c = BringsBack-of (command_parts c.args.command.now) _ _ _ _ _ _ _ c.put.result (returns-clause-outcome g c)

pub returns-clause-spares : goal.returns-clause-spares
returns-clause-spares g c = IsOutcome-spares (command_parts c.args.command.now) _ _ _ _ _ _ _ c.put.result (returns-clause-outcome g c)

pub returns-clause-unwritten : goal.returns-clause-unwritten
returns-clause-unwritten g c = λ none. IsOutcome-unwritten (command_parts c.args.command.now) _ _ _ _ _ _ _ c.put.result (returns-clause-outcome g c) none

pub returns-in_err-basis-clause-files : goal.returns-in_err-basis-clause-files
returns-in_err-basis-clause-files g c =
    let now = files_now g.F.Files.contents g.F.Files.read_faults g.F.Files.replace_faults g.F.Files.touched in
    let parts = command_parts c.args.command.now in
    let names = names_of parts in
    let mid = now c.read_basis.new.files in
    touches_reads names [] names (now c.args.files.now) mid (reads_only names [] (now c.args.files.now) mid c.in_err-basis.ensures.files)

pub returns-in_err-texts-clause-files : goal.returns-in_err-texts-clause-files
returns-in_err-texts-clause-files g c =
    let now = files_now g.F.Files.contents g.F.Files.read_faults g.F.Files.replace_faults g.F.Files.touched in
    let parts = command_parts c.args.command.now in
    let names = names_of parts in
    let mid = now c.read_basis.new.files in
    touches_reads names [] names (now c.args.files.now) mid (reads_only names [] (now c.args.files.now) mid c.in_ok-basis.ensures.files)

pub returns-clause-files : goal.returns-clause-files
returns-clause-files g c =
    let now = files_now g.F.Files.contents g.F.Files.read_faults g.F.Files.replace_faults g.F.Files.touched in
    let parts = command_parts c.args.command.now in
    let names = names_of parts in
    let mid = now c.read_basis.new.files in
    let last = now c.put.new.files in
    let made = c.in_ok-texts.ensures.texts in
    let put = subst (λ (w : List ℕ). OnlyReplaces (w ∷ parts.log ∷ []) mid last) made.setup_file (subst (λ (w : List ℕ). OnlyReplaces (c.in_ok-texts.texts.setup ∷ w ∷ []) mid last) made.log_file c.put.ensures.files) in
    touches_then names [] names (now c.args.files.now) mid last (reads_only names [] (now c.args.files.now) mid c.in_ok-basis.ensures.files) put
