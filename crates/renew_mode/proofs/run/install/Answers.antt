use Rattle.std.proofs.Common.{ℕ, List, ◌∷◌, [], refl, subst}
use Rattle.std.proofs.lemmas.Result.{err_from_is_err_and}
use Rattle.outside.specs.FilesNow.{files_now}
use Rattle.setup_reading.specs.Touching.{OnlyReplaces}
use Rattle.setup_reading.proofs.Touching.{replaces_none}
use Rattle.renew_mode.proofs.RunLemmas.{IsInstalling-put}
use Rattle.renew_mode.proofs.run.install.Goals as goal

pub returns-in_err-put-clause-outcome : goal.returns-in_err-put-clause-outcome
returns-in_err-put-clause-outcome g c =
    let p = err_from_is_err_and c.from_residual-in_err-put.result c.from_residual-in_err-put.ensures.1 in
    rw (p.1, p.2) (IsInstalling-put _ _ c.in_ok-texts.texts _ _ _ _ c.in_err-put.field-0.0 c.in_ok-texts.ensures c.in_err-put.ensures.put)

pub returns-clause-outcome : goal.returns-clause-outcome
returns-clause-outcome g c = (refl, c.in_ok-texts.texts, c.in_ok-texts.ensures, c.in_ok-put.ensures.put)

pub returns-in_err-put-clause-files : goal.returns-in_err-put-clause-files
returns-in_err-put-clause-files g c =
    let now = files_now g.F.Files.contents g.F.Files.read_faults g.F.Files.replace_faults g.F.Files.touched in
    subst (λ (w : List ℕ). OnlyReplaces (w ∷ []) (now c.args.files.now) (now c.put.new.files)) c.in_ok-texts.ensures.file c.in_err-put.ensures.files

pub returns-clause-files : goal.returns-clause-files
returns-clause-files g c =
    let now = files_now g.F.Files.contents g.F.Files.read_faults g.F.Files.replace_faults g.F.Files.touched in
    subst (λ (w : List ℕ). OnlyReplaces (w ∷ []) (now c.args.files.now) (now c.put.new.files)) c.in_ok-texts.ensures.file c.in_ok-put.ensures.files

pub returns-in_err-texts-clause-files : goal.returns-in_err-texts-clause-files
returns-in_err-texts-clause-files g c = replaces_none (c.args.command.now.setup.now ∷ []) (files_now g.F.Files.contents g.F.Files.read_faults g.F.Files.replace_faults g.F.Files.touched c.args.files.now)
