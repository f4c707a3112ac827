use Rattle.std.proofs.Common.{◌≡◌, Err, sym, subst, ◌∙◌, refl}
use Rattle.std.proofs.lemmas.Result.{err_from_is_err_and}
use Rattle.trouble.specs.Reading.{IsUnreadService, trouble_of_service}
use Rattle.trouble.proofs.Unread.{service_unread}
use Rattle.check_mode.proofs.FindingLemmas.{found_read}
use Rattle.check_mode.proofs.run.find.Goals as goal

pub returns-in_err-parts-clause-unread : goal.returns-in_err-parts-clause-unread
returns-in_err-parts-clause-unread g c = λ trouble is.
    let p = err_from_is_err_and c.from_residual.result c.from_residual.ensures.1 in
    let handed = c.in_err-parts.field-0.0 in
    let same : trouble_of_service handed ≡ trouble = sym p.2 ∙ (let e : Err p.0 ≡ Err trouble = sym p.1 ∙ is in cc) in
    let forms = g.I.Information.forms c.args.information.now in
    let contents = g.F.Files.contents c.read_service.new.files in
    subst (IsUnreadService forms contents c.args.name.now _) same (service_unread forms contents c.args.name.now _ handed (c.in_err-parts.ensures.error handed refl))

pub returns-clause-found : goal.returns-clause-found
returns-clause-found g c =
    rw c.finding_of.ensures (found_read (g.I.Information.forms c.args.information.now) (g.F.Files.contents c.read_service.new.files) c.args.name.now c.in_ok-parts.parts.setup c.in_ok-parts.parts.dictionary c.in_ok-parts.ensures.service)
