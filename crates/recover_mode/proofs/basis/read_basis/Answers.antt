use Rattle.std.proofs.Common.{◌≡◌, ◌∷◌, [], Err, ap, sym, subst, ◌∙◌, refl}
use Rattle.std.proofs.lemmas.Result.{err_from_is_err_and}
use Rattle.outside.specs.FilesNow.{files_now}
use Rattle.outside.proofs.OnlyReading.{reads_both, reads_wider}
use Rattle.setup_reading.proofs.Touching.{all_left}
use Rattle.recover_mode.specs.Commands.{command_parts}
use Rattle.recover_mode.specs.Words.{names_of}
use Rattle.trouble.specs.Reading.{IsUnreadSetup, trouble_of_front, trouble_of_setup}
use Rattle.trouble.proofs.Unread.{setup_unread}
use Rattle.recover_mode.proofs.ReadLemmas.{log-unread}
use Rattle.recover_mode.proofs.basis.read_basis.Goals as goal

pub returns-in_err-setup-clause-trouble : goal.returns-in_err-setup-clause-trouble
returns-in_err-setup-clause-trouble g c = λ trouble is.
    let p = err_from_is_err_and c.from_residual.result c.from_residual.ensures.1 in
    let handed = c.in_err-setup.field-0.0 in
    let same : trouble_of_setup handed ≡ trouble = sym p.2 ∙ (let e : Err p.0 ≡ Err trouble = sym p.1 ∙ is in cc) in
    let contents = g.F.Files.contents c.read_setup_file.new.files in
    let name = c.args.command.now.setup.now in
    subst (IsUnreadSetup contents name _) same (setup_unread contents name _ handed (c.in_err-setup.ensures.error handed refl))

pub returns-in_err-image-clause-trouble : goal.returns-in_err-image-clause-trouble
returns-in_err-image-clause-trouble g c = λ trouble is.
    let p = err_from_is_err_and c.from_residual-in_err-image.result c.from_residual-in_err-image.ensures.1 in
    let handed = c.in_err-image.field-0.0 in
    let same : trouble_of_front handed ≡ trouble = sym p.2 ∙ (let e : Err p.0 ≡ Err trouble = sym p.1 ∙ is in cc) in
    let contents = g.F.Files.contents c.read_image.new.files in
    let faults = g.F.Files.read_faults in
    let name = c.args.command.now.setup.now in
    subst (IsUnreadSetup contents name _) same (log-unread contents name (faults c.args.files.now) (faults c.read_setup_file.new.files) (faults c.read_image.new.files) handed c.in_ok-setup.ensures.files.read_faults (λ failed. c.in_err-image.ensures.failed (ap Err failed)))

pub returns-in_err-setup-clause-files : goal.returns-in_err-setup-clause-files
returns-in_err-setup-clause-files g c =
    let now = files_now g.F.Files.contents g.F.Files.read_faults g.F.Files.replace_faults g.F.Files.touched in
    let parts = command_parts c.args.command.now in
    reads_wider (parts.setup ∷ []) (names_of parts) (all_left (parts.setup ∷ []) (parts.log ∷ [])) (now c.args.files.now) (now c.read_setup_file.new.files) c.in_err-setup.ensures.files

pub returns-in_err-image-clause-files : goal.returns-in_err-image-clause-files
returns-in_err-image-clause-files g c =
    let now = files_now g.F.Files.contents g.F.Files.read_faults g.F.Files.replace_faults g.F.Files.touched in
    let parts = command_parts c.args.command.now in
    reads_both (parts.setup ∷ []) (parts.log ∷ []) (now c.args.files.now) (now c.read_setup_file.new.files) (now c.read_image.new.files) c.in_ok-setup.ensures.files c.in_err-image.ensures.files

pub returns-clause-files : goal.returns-clause-files
returns-clause-files g c =
    let now = files_now g.F.Files.contents g.F.Files.read_faults g.F.Files.replace_faults g.F.Files.touched in
    let parts = command_parts c.args.command.now in
    reads_both (parts.setup ∷ []) (parts.log ∷ []) (now c.args.files.now) (now c.read_setup_file.new.files) (now c.read_image.new.files) c.in_ok-setup.ensures.files c.in_ok-image.ensures.files
