use Rattle.std.proofs.Common.{◌∷◌, [], arith, refl}
use Rattle.std.proofs.lemmas.Result.{err_from_is_err_and}
use Rattle.outside.specs.FilesNow.{files_now}
use Rattle.setup_reading.proofs.Touching.{touches_reads, touches_then}
use Rattle.renew_mode.specs.Outcome.{names_of}
use Rattle.outside.proofs.Told.{Rose-within}
use Rattle.otp_extended.specs.Commands.{command_parts}
use Rattle.renew_mode.proofs.RunLemmas.{IsOutcome-read, IsOutcome-spares, IsOutcome-unread, IsOutcome-unwritten}
use Rattle.renew_mode.proofs.run.run_renew.Goals as goal

pub returns-in_err-basis-clause-outcome : goal.returns-in_err-basis-clause-outcome
returns-in_err-basis-clause-outcome g c =
    let trouble = c.in_err-basis.field-0.0 in
    let p = err_from_is_err_and c.from_residual.result c.from_residual.ensures.1 in
    rw (p.1, p.2) (IsOutcome-unread (command_parts c.args.command.now) (g.F.Files.contents c.args.files.now) (g.F.Files.contents c.make_ready.new.files) (g.E.Stream.link c.args.ends.now) _ _ _ trouble (c.in_err-basis.ensures.trouble trouble refl) c.in_err-basis.ensures.files.reads.kept)

pub returns-clause-outcome : goal.returns-clause-outcome
returns-clause-outcome g c =
    let contents = g.F.Files.contents in
    let faults = g.F.Files.replace_faults in
    IsOutcome-read (command_parts c.args.command.now) c.in_ok-basis.basis _ _ _ (contents c.args.files.now) (contents c.make_ready.new.files) (contents c.renew_account.new.files) (g.E.Stream.link c.args.ends.now) (g.E.Stream.link c.renew_account.new.ends) _ c.renew_account.result c.in_ok-basis.ensures.files.reads.kept c.in_ok-basis.ensures.ready (λ rose. Rose-within (faults c.args.files.now) (faults c.make_ready.new.files) (faults c.renew_account.new.files) (faults c.renew_account.new.files) c.in_ok-basis.ensures.files.reads.replace_faults rose (omega arith)) c.renew_account.ensures.outcome

pub returns-clause-spares : goal.returns-clause-spares
returns-clause-spares g c = IsOutcome-spares (command_parts c.args.command.now) _ _ _ _ _ _ _ c.renew_account.result (returns-clause-outcome g c)

pub returns-clause-unwritten : goal.returns-clause-unwritten
returns-clause-unwritten g c = λ none. IsOutcome-unwritten (command_parts c.args.command.now) _ _ _ _ _ _ _ c.renew_account.result (returns-clause-outcome g c) none

pub returns-in_err-basis-clause-files : goal.returns-in_err-basis-clause-files
returns-in_err-basis-clause-files g c =
    let now = files_now g.F.Files.contents g.F.Files.read_faults g.F.Files.replace_faults g.F.Files.touched in
    let parts = command_parts c.args.command.now in
    touches_reads (names_of parts) (parts.setup ∷ []) (parts.setup ∷ []) (now c.args.files.now) (now c.make_ready.new.files) c.in_err-basis.ensures.files

pub returns-clause-files : goal.returns-clause-files
returns-clause-files g c =
    let now = files_now g.F.Files.contents g.F.Files.read_faults g.F.Files.replace_faults g.F.Files.touched in
    let parts = command_parts c.args.command.now in
    touches_then (names_of parts) (parts.setup ∷ []) (parts.setup ∷ []) (now c.args.files.now) (now c.make_ready.new.files) (now c.renew_account.new.files) c.in_ok-basis.ensures.files c.renew_account.ensures.files
