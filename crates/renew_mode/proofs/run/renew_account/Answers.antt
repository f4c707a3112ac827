use Rattle.std.proofs.Common.{◌∷◌, [], arith, refl}
use Rattle.std.proofs.lemmas.Result.{err_from_is_err_and}
use Rattle.outside.specs.FilesNow.{files_now}
use Rattle.setup_reading.proofs.Touching.{replaces_none}
use Rattle.outside.proofs.Told.{Rose-within}
use Rattle.otp_mode.proofs.Asking.{Asks-unasked}
use Rattle.otp_extended.specs.Commands.{command_parts}
use Rattle.renew_mode.proofs.RunLemmas.{IsRenewing-installed, IsRenewing-none}
use Rattle.renew_mode.proofs.run.renew_account.Goals as goal

pub returns-in_err-renewal-clause-outcome : goal.returns-in_err-renewal-clause-outcome
returns-in_err-renewal-clause-outcome g c =
    let p = err_from_is_err_and c.from_residual.result c.from_residual.ensures.1 in
    rw (p.1, p.2) (IsRenewing-none (command_parts c.args.command.now) c.args.basis.now _ _ c.args.command.now.user (g.F.Files.contents c.args.files.now) (g.E.Stream.link c.args.ends.now) (g.E.Stream.link c.receive_renewal.new.ends) c.in_err-renewal.field-0.0 refl c.in_err-renewal.ensures.outcome)

pub returns-clause-outcome : goal.returns-clause-outcome
returns-clause-outcome g c =
    let link = g.E.Stream.link in
    let faults = g.E.Stream.faults in
    IsRenewing-installed (command_parts c.args.command.now) c.args.basis.now _ _ _ c.args.command.now.user c.in_ok-renewal.renewal _ _ (link c.args.ends.now) (link c.receive_renewal.new.ends) (link c.install.new.ends) c.install.result refl c.in_ok-renewal.ensures.outcome (λ rose. Rose-within (faults c.args.ends.now) (faults c.receive_renewal.new.ends) (faults c.install.new.ends) (faults c.install.new.ends) c.in_ok-renewal.ensures.faults rose (omega arith)) c.install.ensures.outcome

pub returns-in_err-renewal-clause-files : goal.returns-in_err-renewal-clause-files
returns-in_err-renewal-clause-files g c = replaces_none (c.args.command.now.setup.now ∷ []) (files_now g.F.Files.contents g.F.Files.read_faults g.F.Files.replace_faults g.F.Files.touched c.args.files.now)

pub returns-clause-asked : goal.returns-clause-asked
returns-clause-asked g c =
    let link = g.E.Stream.link in
    Asks-unasked 4096 (link c.args.ends.now) (link c.receive_renewal.new.ends) (link c.install.new.ends) c.in_ok-renewal.ensures.asked c.install.ensures.unasked
