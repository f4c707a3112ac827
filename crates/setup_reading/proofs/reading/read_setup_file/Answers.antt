use Rattle.std.proofs.Common.{◌≡◌, Err, Ok, sym, subst, ◌∙◌, refl}
use Rattle.std.proofs.lemmas.Result.{err_from_is_err_and}
use Rattle.setup_reading.specs.declared.reading.SetupFileError.TheVariants as errors
use Rattle.setup_reading.specs.Read.{IsSetupError, error_of_setup}
use Rattle.setup_reading.proofs.ReadLemmas.{judged-file, missing-setup, read-setup, unread-setup}
use Rattle.setup_reading.proofs.reading.read_setup_file.Goals as goal

pub returns-in_default-clause-error : goal.returns-in_default-clause-error
returns-in_default-clause-error g c = λ error is.
    let same : errors.Missing ≡ error = cc in
    let contents = g.F.Files.contents c.read_front.new.files in
    subst (IsSetupError contents c.args.name.now _) same (missing-setup (λ bytes. bytes.items) c.in_ok-bytes.field-0 contents c.args.name.now c.in_default.is c.in_ok-bytes.ensures.front)

pub returns-in_err-judged_setup-clause-error : goal.returns-in_err-judged_setup-clause-error
returns-in_err-judged_setup-clause-error g c = λ error is.
    let p = err_from_is_err_and c.from_residual-in_err-judged_setup.result c.from_residual-in_err-judged_setup.ensures.1 in
    let handed = c.in_err-judged_setup.field-0.0 in
    let same : error_of_setup handed ≡ error = sym p.2 ∙ (let e : Err p.0 ≡ Err error = sym p.1 ∙ is in cc) in
    let contents = g.F.Files.contents c.read_front.new.files in
    let judged = judged-file (λ bytes. bytes.items) c.in_ok-bytes.field-0 c.in-Some.bytes c.as_slice.result.now contents c.args.name.now c.in-Some.is c.as_slice.ensures.value c.in_ok-bytes.ensures.front in
    subst (IsSetupError contents c.args.name.now _) same (unread-setup contents c.args.name.now c.as_slice.result.now _ (Err handed) handed judged c.in_err-judged_setup.ensures refl)

pub returns-clause-setup : goal.returns-clause-setup
returns-clause-setup g c =
    let setup = c.in_ok-judged_setup.field-0 in
    let contents = g.F.Files.contents c.read_front.new.files in
    let judged = judged-file (λ bytes. bytes.items) c.in_ok-bytes.field-0 c.in-Some.bytes c.as_slice.result.now contents c.args.name.now c.in-Some.is c.as_slice.ensures.value c.in_ok-bytes.ensures.front in
    read-setup contents c.args.name.now c.as_slice.result.now (Ok setup) setup judged c.in_ok-judged_setup.ensures refl
