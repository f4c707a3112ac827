use Rattle.std.proofs.Common.{◌≡◌, Err, refl, sym, ◌∙◌, subst}
use Rattle.std.proofs.lemmas.Result.{err_from_is_err_and}
use Rattle.std.specs.Option.{option_to_list}
use Rattle.outside.specs.FilesNow.{files_now}
use Rattle.outside.specs.Told.{Rose}
use Rattle.outside.proofs.OnlyReading.{reads_none}
use Rattle.serve_mode.specs.Commands.{source_of}
use Rattle.serve_mode.specs.Steps.{IsUnready, log_of}
use Rattle.serve_mode.proofs.StillLemmas.{read_still, ready_files, unready_log}
use Rattle.serve_mode.proofs.reading.make_ready.Goals as goal

-- the log is refused
pub returns-in_err-check_log-clause-trouble : goal.returns-in_err-check_log-clause-trouble
returns-in_err-check_log-clause-trouble g c = λ trouble is.
    let contents = g.F.Files.contents in
    let refused = c.in_err-check_log.field-0.0 in
    let handed = err_from_is_err_and c.from_residual-in_err-check_log.result c.from_residual-in_err-check_log.ensures.1 in
    let same : refused ≡ trouble = (let e : handed.0 ≡ trouble = (let f : Err handed.0 ≡ Err trouble = sym handed.1 ∙ is in cc) in sym handed.2 ∙ e) in
    subst (IsUnready (source_of c.args.command.now) (g.I.Information.forms c.args.information.now) (contents c.check_log.new.files) (Rose (g.F.Files.read_faults c.args.files.now) (g.F.Files.read_faults c.check_log.new.files))) same
    (unready_log (source_of c.args.command.now) (g.I.Information.forms c.args.information.now) (contents c.read_house.new.files) (contents c.check_log.new.files) c.in_ok-house.house.setup c.in_ok-house.house.dictionary (g.F.Files.read_faults c.args.files.now) (g.F.Files.read_faults c.read_house.new.files) (g.F.Files.read_faults c.check_log.new.files) refused c.in_ok-house.ensures.read c.check_log.ensures.files.kept c.read_house.ensures.files.reads.read_faults (c.in_err-check_log.ensures.trouble refused refl))

-- the log is fresh
pub returns-clause-read : goal.returns-clause-read
returns-clause-read g c = read_still (source_of c.args.command.now) (g.I.Information.forms c.args.information.now) (g.F.Files.contents c.read_house.new.files) (g.F.Files.contents c.check_log.new.files) c.in_ok-house.house.setup c.in_ok-house.house.dictionary c.in_ok-house.ensures.read c.check_log.ensures.files.kept

pub returns-in_err-house-clause-files : goal.returns-in_err-house-clause-files
returns-in_err-house-clause-files g c =
    let now = files_now g.F.Files.contents g.F.Files.read_faults g.F.Files.replace_faults g.F.Files.touched in
    let source = source_of c.args.command.now in
    let after = now c.read_house.new.files in
    ready_files source (now c.args.files.now) after after c.read_house.ensures.files (reads_none (option_to_list (log_of source)) after)

pub returns-in_err-check_log-clause-files : goal.returns-in_err-check_log-clause-files
returns-in_err-check_log-clause-files g c =
    let now = files_now g.F.Files.contents g.F.Files.read_faults g.F.Files.replace_faults g.F.Files.touched in
    let source = source_of c.args.command.now in
    ready_files source (now c.args.files.now) (now c.read_house.new.files) (now c.check_log.new.files) c.read_house.ensures.files c.check_log.ensures.files

pub returns-clause-files : goal.returns-clause-files
returns-clause-files g c =
    let now = files_now g.F.Files.contents g.F.Files.read_faults g.F.Files.replace_faults g.F.Files.touched in
    let source = source_of c.args.command.now in
    ready_files source (now c.args.files.now) (now c.read_house.new.files) (now c.check_log.new.files) c.read_house.ensures.files c.check_log.ensures.files
