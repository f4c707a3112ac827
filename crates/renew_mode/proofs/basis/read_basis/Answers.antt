use Rattle.std.proofs.Common.{◌≡◌, ◌∷◌, [], Err, Ok, sym, subst, ap, ◌∙◌, refl}
use Rattle.std.proofs.lemmas.Result.{err_from_is_err_and}
use Rattle.outside.specs.FilesNow.{files_now}
use Rattle.outside.specs.Told.{Rose}
use Rattle.setup_reading.proofs.Touching.{reads_list, reads_only}
use Rattle.file_front.specs.Lists.{IsJudgedSo, IsListFault}
use Rattle.trouble.specs.Reading.{trouble_of_list, trouble_of_setup}
use Rattle.renew_mode.specs.Bases.{IsFileTrouble}
use Rattle.renew_mode.proofs.RenewLemmas.{HasBasis-read, IsFileTrouble-list, IsFileTrouble-setup}
use Rattle.renew_mode.proofs.basis.read_basis.Goals as goal

pub returns-in_err-setup-clause-trouble : goal.returns-in_err-setup-clause-trouble
returns-in_err-setup-clause-trouble g c = λ trouble is.
    let p = err_from_is_err_and c.from_residual.result c.from_residual.ensures.1 in
    let handed = c.in_err-setup.field-0.0 in
    let same : trouble_of_setup handed ≡ trouble = sym p.2 ∙ (let e : Err p.0 ≡ Err trouble = sym p.1 ∙ is in cc) in
    let contents = g.F.Files.contents c.read_setup_file.new.files in
    subst (IsFileTrouble contents c.args.name.now _) same (IsFileTrouble-setup contents c.args.name.now _ handed (c.in_err-setup.ensures.error handed refl))

pub returns-in_err-dictionary-clause-trouble : goal.returns-in_err-dictionary-clause-trouble
returns-in_err-dictionary-clause-trouble g c = λ trouble is.
    let p = err_from_is_err_and c.from_residual-in_err-dictionary.result c.from_residual-in_err-dictionary.ensures.1 in
    let handed = c.in_err-dictionary.field-0.0 in
    let same : trouble_of_list handed ≡ trouble = sym p.2 ∙ (let e : Err p.0 ≡ Err trouble = sym p.1 ∙ is in cc) in
    let contents = g.F.Files.contents c.read_list.new.files in
    let setup = c.in_ok-setup.setup in
    let named = c.as_str.ensures ∙ ap (λ s. s.words) c.parts.ensures.value in
    let faults = g.F.Files.read_faults in
    let unread = subst (λ name. IsListFault contents name (Rose (faults c.read_setup_file.new.files) (faults c.read_list.new.files)) handed) named (c.in_err-dictionary.ensures.fault handed refl) in
    subst (IsFileTrouble contents c.args.name.now _) same (IsFileTrouble-list (g.F.Files.contents c.read_setup_file.new.files) contents c.args.name.now setup _ _ _ handed c.in_err-dictionary.ensures.files.kept c.in_ok-setup.ensures.setup c.in_ok-setup.ensures.files.read_faults unread)

pub returns-clause-basis : goal.returns-clause-basis
returns-clause-basis g c =
    let contents = g.F.Files.contents c.read_list.new.files in
    let setup = c.in_ok-setup.setup in
    let dictionary = c.in_ok-dictionary.dictionary in
    let named = c.as_str.ensures ∙ ap (λ s. s.words) c.parts.ensures.value in
    let listed = subst (λ name. IsJudgedSo contents name (Ok dictionary)) named c.in_ok-dictionary.ensures.words in
    HasBasis-read (g.F.Files.contents c.read_setup_file.new.files) contents c.args.name.now (record { setup = setup; dictionary = dictionary }) c.in_ok-dictionary.ensures.files.kept c.in_ok-setup.ensures.setup listed

pub returns-in_err-setup-clause-files : goal.returns-in_err-setup-clause-files
returns-in_err-setup-clause-files g c =
    let now = files_now g.F.Files.contents g.F.Files.read_faults g.F.Files.replace_faults g.F.Files.touched in
    let names = c.args.name.now ∷ [] in
    reads_only names names (now c.args.files.now) (now c.read_setup_file.new.files) c.in_err-setup.ensures.files

pub returns-in_err-dictionary-clause-files : goal.returns-in_err-dictionary-clause-files
returns-in_err-dictionary-clause-files g c =
    let now = files_now g.F.Files.contents g.F.Files.read_faults g.F.Files.replace_faults g.F.Files.touched in
    let named = c.as_str.ensures ∙ ap (λ s. s.words) c.parts.ensures.value in
    reads_list c.args.name.now c.in_ok-setup.setup c.as_str.result.now (now c.args.files.now) (now c.read_setup_file.new.files) (now c.read_list.new.files) c.in_ok-setup.ensures.files c.in_ok-setup.ensures.setup named c.in_err-dictionary.ensures.files

pub returns-clause-files : goal.returns-clause-files
returns-clause-files g c =
    let now = files_now g.F.Files.contents g.F.Files.read_faults g.F.Files.replace_faults g.F.Files.touched in
    let named = c.as_str.ensures ∙ ap (λ s. s.words) c.parts.ensures.value in
    reads_list c.args.name.now c.in_ok-setup.setup c.as_str.result.now (now c.args.files.now) (now c.read_setup_file.new.files) (now c.read_list.new.files) c.in_ok-setup.ensures.files c.in_ok-setup.ensures.setup named c.in_ok-dictionary.ensures.files
