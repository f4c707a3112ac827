use Rattle.std.proofs.Common.{sym, ◌∙◌}
use Rattle.std.proofs.lemmas.Result.{err_from_is_err_and}
use Rattle.otp_extended.proofs.SpentLemmas.{is_renewed}
use Rattle.otp_extended.proofs.run.renewal_by.Goals as goal

pub returns-in_err-after-in-Ok : goal.returns-in_err-after-in-Ok
returns-in_err-after-in-Ok c =
    let p = err_from_is_err_and c.from_residual.result c.from_residual.ensures.1 in
    rw (p.1, p.2) (c.in-Ok.new, sym c.renew.ensures.renewal ∙ c.in-Ok.is)

pub returns-in_ok-after-in-Ok : goal.returns-in_ok-after-in-Ok
returns-in_ok-after-in-Ok c =
    let is = sym c.renew.ensures.renewal ∙ c.in-Ok.is in
    (is, is_renewed c.args.setup.now c.in_ok-after-in-Ok.after c.args.user.now c.args.response.now c.in-Ok.new c.renewed.ensures.in_range c.in-Ok.ensures.sequence is c.in_ok-after-in-Ok.ensures.setup)
