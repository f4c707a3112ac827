use Rattle.std.proofs.Common.{◌≡◌, ◌∷◌, [], Err, refl, sym, subst, ◌∙◌}
use Rattle.std.proofs.lemmas.Result.{err_from_is_err_and}
use Rattle.std.specs.Option.{option_to_list}
use Rattle.outside.specs.FilesNow.{files_now}
use Rattle.outside.specs.Told.{Rose}
use Rattle.outside.proofs.OnlyReading.{reads_none}
use Rattle.setup_reading.proofs.Touching.{reads_more}
use Rattle.otp_extended.specs.Commands.{command_parts}
use Rattle.renew_mode.specs.Bases.{IsUnready}
use Rattle.renew_mode.proofs.RenewLemmas.{HasBasis-later, IsReady-of, IsUnready-file, IsUnready-log}
use Rattle.renew_mode.proofs.basis.make_ready.Goals as goal

-- there is no setup or no word list
pub returns-in_err-basis-clause-trouble : goal.returns-in_err-basis-clause-trouble
returns-in_err-basis-clause-trouble g c = λ trouble is.
    let handed = c.in_err-basis.field-0.0 in
    let p = err_from_is_err_and c.from_residual.result c.from_residual.ensures.1 in
    let same : handed ≡ trouble = sym p.2 ∙ (let e : Err p.0 ≡ Err trouble = sym p.1 ∙ is in cc) in
    let parts = command_parts c.args.command.now in
    let contents = g.F.Files.contents c.read_basis.new.files in
    subst (IsUnready parts contents _) same (IsUnready-file parts contents _ handed (c.in_err-basis.ensures.trouble handed refl))

-- the log is refused
pub returns-in_err-check_log-clause-trouble : goal.returns-in_err-check_log-clause-trouble
returns-in_err-check_log-clause-trouble g c = λ trouble is.
    let handed = c.in_err-check_log.field-0.0 in
    let p = err_from_is_err_and c.from_residual-in_err-check_log.result c.from_residual-in_err-check_log.ensures.1 in
    let same : handed ≡ trouble = sym p.2 ∙ (let e : Err p.0 ≡ Err trouble = sym p.1 ∙ is in cc) in
    let parts = command_parts c.args.command.now in
    let contents = g.F.Files.contents in
    let faults = g.F.Files.read_faults in
    let has = HasBasis-later (contents c.read_basis.new.files) (contents c.check_log.new.files) parts.setup c.in_ok-basis.basis c.check_log.ensures.files.kept c.in_ok-basis.ensures.basis in
    subst (IsUnready parts (contents c.check_log.new.files) (Rose (faults c.args.files.now) (faults c.check_log.new.files))) same (IsUnready-log parts.setup parts.user parts.log (contents c.check_log.new.files) c.in_ok-basis.basis (faults c.args.files.now) (faults c.read_basis.new.files) (faults c.check_log.new.files) handed has c.read_basis.ensures.files.reads.read_faults (c.in_err-check_log.ensures.trouble handed refl))

-- the log is fresh
pub returns-clause-ready : goal.returns-clause-ready
returns-clause-ready g c =
    let parts = command_parts c.args.command.now in
    let contents = g.F.Files.contents in
    let has = HasBasis-later (contents c.read_basis.new.files) (contents c.check_log.new.files) parts.setup c.in_ok-basis.basis c.check_log.ensures.files.kept c.in_ok-basis.ensures.basis in
    IsReady-of (contents c.check_log.new.files) parts c.in_ok-basis.basis has c.in_ok-check_log.ensures.fresh

pub returns-in_err-basis-clause-files : goal.returns-in_err-basis-clause-files
returns-in_err-basis-clause-files g c =
    let now = files_now g.F.Files.contents g.F.Files.read_faults g.F.Files.replace_faults g.F.Files.touched in
    let parts = command_parts c.args.command.now in
    let more = option_to_list parts.log in
    let after = now c.read_basis.new.files in
    reads_more (parts.setup ∷ []) (parts.setup ∷ []) more (now c.args.files.now) after after c.read_basis.ensures.files (reads_none more after)

pub returns-in_err-check_log-clause-files : goal.returns-in_err-check_log-clause-files
returns-in_err-check_log-clause-files g c =
    let now = files_now g.F.Files.contents g.F.Files.read_faults g.F.Files.replace_faults g.F.Files.touched in
    let parts = command_parts c.args.command.now in
    reads_more (parts.setup ∷ []) (parts.setup ∷ []) (option_to_list parts.log) (now c.args.files.now) (now c.read_basis.new.files) (now c.check_log.new.files) c.read_basis.ensures.files c.check_log.ensures.files

pub returns-clause-files : goal.returns-clause-files
returns-clause-files g c =
    let now = files_now g.F.Files.contents g.F.Files.read_faults g.F.Files.replace_faults g.F.Files.touched in
    let parts = command_parts c.args.command.now in
    reads_more (parts.setup ∷ []) (parts.setup ∷ []) (option_to_list parts.log) (now c.args.files.now) (now c.read_basis.new.files) (now c.check_log.new.files) c.read_basis.ensures.files c.check_log.ensures.files
