use Rattle.std.proofs.Common.{◌≡◌, ◌∷◌, [], Err, ap, refl, subst, sym, ◌∙◌}
use Rattle.std.proofs.lemmas.Result.{err_from_is_err_and}
use Rattle.outside.specs.FilesNow.{files_now}
use Rattle.outside.proofs.OnlyReading.{reads_none}
use Rattle.setup_reading.specs.Touching.{ReadsNamed}
use Rattle.setup_reading.proofs.Touching.{reads_only}
use Rattle.trouble.specs.Reading.{trouble_of_service}
use Rattle.serve_mode.specs.Commands.{source_of}
use Rattle.serve_mode.specs.Steps.{IsUnready}
use Rattle.serve_mode.proofs.StillLemmas.{unready_service}
use Rattle.serve_mode.specs.Words.{setups_of}
use Rattle.serve_mode.proofs.reading.read_house.Goals as goal
use Rattle.serve_mode.proofs.reading.read_house.Goals.{in-Plain+in-Ok, in-Named+in_ok-parts-in-Named}

pub returns-in_err-parts-in-Named-clause-trouble : goal.returns-in_err-parts-in-Named-clause-trouble
returns-in_err-parts-in-Named-clause-trouble g c = λ trouble is.
    let p = err_from_is_err_and c.from_residual.result c.from_residual.ensures.1 in
    let handed = c.in_err-parts-in-Named.field-0.0 in
    let same : trouble_of_service handed ≡ trouble = sym p.2 ∙ (let e : Err p.0 ≡ Err trouble = sym p.1 ∙ is in cc) in
    let source = source_of c.args.command.now in
    let forms = g.I.Information.forms c.args.information.now in
    let contents = g.F.Files.contents c.read_service.new.files in
    subst (IsUnready source forms contents _) same (unready_service source c.in-Named.setup.now _ forms contents _ handed (ap source_of c.in-Named.is) (c.in_err-parts-in-Named.ensures.error handed refl))

pub returns-clause-files : goal.returns-clause-files
returns-clause-files g c =
    let now = files_now g.F.Files.contents g.F.Files.read_faults g.F.Files.replace_faults g.F.Files.touched in
    let names = setups_of (source_of c.args.command.now) in
    let old = now c.args.files.now in
    elim c.match-command.branch [
      | in-Plain+in-Ok w ↦ subst (λ files. ReadsNamed names names old (now files)) (sym w.files-is) (reads_only names names old old (reads_none names old))
      | in-Named+in_ok-parts-in-Named w ↦
          let named : w.in-Named.setup.now ∷ [] ≡ names = sym (ap (λ command. setups_of (source_of command)) w.in-Named.is) in
          subst (λ files. ReadsNamed names names old (now files)) (sym w.files-is) (subst (λ n. ReadsNamed n n old (now w.read_service.new.files)) named w.read_service.ensures.files)
    ]
