use Rattle.std.proofs.Common.{◌≡◌, ◌∷◌, [], Result, Ok, Err, IfOk, IfSome, sym, subst, ◌∙◌, refl}
use Rattle.std.proofs.lemmas.Result.{err_from_is_err_and}
use Rattle.outside.specs.FilesNow.{files_now}
use Rattle.outside.proofs.OnlyReading.{reads_both, reads_wider}
use Rattle.setup_reading.proofs.Touching.{all_left}
use Rattle.audit_check.specs.declared.answer.Audit.{Audit}
use Rattle.trouble.specs.declared.trouble.Trouble.{Trouble}
use Rattle.trouble.specs.Reading.{trouble_of_setup}
use Rattle.audit_mode.specs.Commands.{command_parts}
use Rattle.audit_mode.specs.Words.{names_of}
use Rattle.audit_mode.specs.Outcome.{IsAnswered, IsAnswerOf, IsFileTrouble}
use Rattle.audit_mode.proofs.AuditLemmas.{IsAnswered-setup, IsFileTrouble-log, IsFileTrouble-setup}
use Rattle.audit_mode.proofs.run.audit_files.Goals as goal

pub returns-in_err-setup-clause-trouble : goal.returns-in_err-setup-clause-trouble
returns-in_err-setup-clause-trouble g c = λ trouble is.
    let p = err_from_is_err_and c.from_residual.result c.from_residual.ensures.1 in
    let handed = c.in_err-setup.field-0.0 in
    let same : trouble_of_setup handed ≡ trouble = sym p.2 ∙ (let e : Err p.0 ≡ Err trouble = sym p.1 ∙ is in cc) in
    let contents = g.F.Files.contents c.read_setup_file.new.files in
    let parts = command_parts c.args.command.now in
    subst (IsFileTrouble contents parts _) same (IsFileTrouble-setup contents parts _ handed (c.in_err-setup.ensures.error handed refl))

pub returns-clause-answer : goal.returns-clause-answer
returns-clause-answer g c = go c.audit_log.result c.audit_log.ensures.answer where
  go : (result : Result Audit Trouble) → IfOk result (λ answer. IfSome (g.F.Files.contents c.audit_log.new.files) (λ there. IsAnswerOf c.in_ok-setup.setup (there c.args.command.now.log.now) answer)) → IfOk result (IsAnswered (g.F.Files.contents c.audit_log.new.files) (command_parts c.args.command.now))
  go (Err error) said = tt
  go (Ok answer) said =
      IsAnswered-setup (g.F.Files.contents c.read_setup_file.new.files) (g.F.Files.contents c.audit_log.new.files) (command_parts c.args.command.now) c.in_ok-setup.setup answer c.audit_log.ensures.files.kept c.in_ok-setup.ensures.setup said

pub returns-clause-trouble : goal.returns-clause-trouble
returns-clause-trouble g c = λ trouble is.
    IsFileTrouble-log (g.F.Files.contents c.read_setup_file.new.files) (g.F.Files.contents c.audit_log.new.files) (command_parts c.args.command.now) c.in_ok-setup.setup _ _ _ trouble c.audit_log.ensures.files.kept c.in_ok-setup.ensures.setup c.in_ok-setup.ensures.files.read_faults (c.audit_log.ensures.trouble trouble is)

pub returns-in_err-setup-clause-files : goal.returns-in_err-setup-clause-files
returns-in_err-setup-clause-files g c =
    let now = files_now g.F.Files.contents g.F.Files.read_faults g.F.Files.replace_faults g.F.Files.touched in
    let parts = command_parts c.args.command.now in
    reads_wider (parts.setup ∷ []) (names_of parts) (all_left (parts.setup ∷ []) (parts.log ∷ [])) (now c.args.files.now) (now c.read_setup_file.new.files) c.in_err-setup.ensures.files

pub returns-clause-files : goal.returns-clause-files
returns-clause-files g c =
    let now = files_now g.F.Files.contents g.F.Files.read_faults g.F.Files.replace_faults g.F.Files.touched in
    let parts = command_parts c.args.command.now in
    reads_both (parts.setup ∷ []) (parts.log ∷ []) (now c.args.files.now) (now c.read_setup_file.new.files) (now c.audit_log.new.files) c.in_ok-setup.ensures.files c.audit_log.ensures.files
