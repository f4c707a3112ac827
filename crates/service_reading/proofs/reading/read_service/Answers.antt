use Rattle.std.proofs.Common.{◌≡◌, ◌∷◌, [], refl, subst, sym, arith}
use Rattle.std.proofs.lemmas.Result.{err_from_is_err_and}
use Rattle.outside.specs.Told.{Rose}
use Rattle.outside.proofs.Told.{Rose-within}
use Rattle.policy_model.specs.Settings.{Settings}
use Rattle.outside.specs.FilesNow.{files_now}
use Rattle.setup_reading.proofs.Touching.{reads_list, reads_only}
use Rattle.service_reading.specs.Errors.{IsServiceError, error_of_list, error_of_setup}
use Rattle.service_reading.specs.Found.{IsServiceIn}
use Rattle.service_reading.proofs.Found.{informed_in, list_unread, service_read, setup_unread}
use Rattle.service_reading.proofs.reading.read_service.Goals as goal

pub returns-in_err-setup-clause-error : goal.returns-in_err-setup-clause-error
returns-in_err-setup-clause-error g c = λ error is.
    let p = err_from_is_err_and c.from_residual.result c.from_residual.ensures.1 in
    let same : error_of_setup c.in_err-setup.field-0.0 ≡ error = cc in
    subst (IsServiceError (g.I.Information.forms c.args.information.now) (g.F.Files.contents c.read_setup_file.new.files) c.args.name.now (Rose (g.F.Files.read_faults c.args.files.now) (g.F.Files.read_faults c.read_setup_file.new.files))) same
    (setup_unread (g.I.Information.forms c.args.information.now) (g.F.Files.contents c.read_setup_file.new.files) c.args.name.now _ c.in_err-setup.field-0.0 (c.in_err-setup.ensures.error c.in_err-setup.field-0.0 refl))

pub returns-in_err-with_list-in-Ok-clause-error : goal.returns-in_err-with_list-in-Ok-clause-error
returns-in_err-with_list-in-Ok-clause-error g c = λ error is.
    let forms = g.I.Information.forms c.args.information.now in
    let contents = g.F.Files.contents in
    let count = g.F.Files.read_faults in
    let old = c.args.files.now in
    let mid = c.read_setup_file.new.files in
    let new = c.with_list.new.files in
    let p = err_from_is_err_and c.from_residual-in_err-with_list-in-Ok.result c.from_residual-in_err-with_list-in-Ok.ensures.1 in
    let same : error_of_list c.in_err-with_list-in-Ok.field-0.0 ≡ error = cc in
    subst (IsServiceError forms (contents new) c.args.name.now (Rose (count old) (count new))) same
    (list_unread forms (contents mid) (contents new) c.args.name.now c.in-Ok.setup.words (Rose (count mid) (count new)) (Rose (count old) (count new)) c.in_ok-setup.setup c.in-Ok.setup c.in_err-with_list-in-Ok.field-0.0 c.in_ok-setup.ensures.setup c.in-Ok.ensures c.in_err-with_list-in-Ok.ensures.files.kept
    refl (λ rose. Rose-within (count old) (count mid) (count new) (count new) c.in_ok-setup.ensures.files.read_faults rose (omega arith))
    (c.in_err-with_list-in-Ok.ensures.fault c.in_err-with_list-in-Ok.field-0.0 refl))

pub returns-in_ok-with_list-in-Ok-clause-service : goal.returns-in_ok-with_list-in-Ok-clause-service
returns-in_ok-with_list-in-Ok-clause-service g c =
    let forms = g.I.Information.forms c.args.information.now in
    let contents = g.F.Files.contents in
    let new = contents c.with_list.new.files in
    let parts = c.in_ok-with_list-in-Ok.field-0 in
    let ensures = c.in_ok-with_list-in-Ok.ensures in
    subst (λ (s : Settings). IsServiceIn forms new c.args.name.now s parts.dictionary) (sym ensures.setup)
    (service_read forms (contents c.read_setup_file.new.files) new c.args.name.now c.in-Ok.setup.words c.in_ok-setup.setup c.in-Ok.setup parts.dictionary
    c.in_ok-setup.ensures.setup c.in-Ok.ensures ensures.files.kept refl ensures.words)

pub returns-in_err-setup-clause-files : goal.returns-in_err-setup-clause-files
returns-in_err-setup-clause-files g c =
    let now = files_now g.F.Files.contents g.F.Files.read_faults g.F.Files.replace_faults g.F.Files.touched in
    let names = c.args.name.now ∷ [] in
    reads_only names names (now c.args.files.now) (now c.read_setup_file.new.files) c.in_err-setup.ensures.files

-- the setup and the list that it names
pub returns-in_ok-with_list-in-Ok-clause-files : goal.returns-in_ok-with_list-in-Ok-clause-files
returns-in_ok-with_list-in-Ok-clause-files g c =
    let now = files_now g.F.Files.contents g.F.Files.read_faults g.F.Files.replace_faults g.F.Files.touched in
    let forms = g.I.Information.forms c.args.information.now in
    let mid = c.read_setup_file.new.files in
    reads_list c.args.name.now c.in-Ok.setup c.in-Ok.setup.words (now c.args.files.now) (now mid) (now c.with_list.new.files) c.in_ok-setup.ensures.files
    (informed_in forms (g.F.Files.contents mid) c.args.name.now c.in_ok-setup.setup c.in-Ok.setup c.in-Ok.ensures c.in_ok-setup.ensures.setup) refl c.in_ok-with_list-in-Ok.ensures.files

pub returns-in_err-with_list-in-Ok-clause-files : goal.returns-in_err-with_list-in-Ok-clause-files
returns-in_err-with_list-in-Ok-clause-files g c =
    let now = files_now g.F.Files.contents g.F.Files.read_faults g.F.Files.replace_faults g.F.Files.touched in
    let forms = g.I.Information.forms c.args.information.now in
    let mid = c.read_setup_file.new.files in
    reads_list c.args.name.now c.in-Ok.setup c.in-Ok.setup.words (now c.args.files.now) (now mid) (now c.with_list.new.files) c.in_ok-setup.ensures.files
    (informed_in forms (g.F.Files.contents mid) c.args.name.now c.in_ok-setup.setup c.in-Ok.setup c.in-Ok.ensures c.in_ok-setup.ensures.setup) refl c.in_err-with_list-in-Ok.ensures.files
