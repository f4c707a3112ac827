use Rattle.std.proofs.Common.{◌≡◌, Some, arith, refl}
use Rattle.std.proofs.lemmas.Result.{err_from_is_err_and}
use Rattle.otp_mode.specs.Command.{command_parts}
use Rattle.otp_mode.proofs.Exactness.{exactly}
use Rattle.otp_mode.proofs.OutcomeLemmas.{IsOutcome-list}
use Rattle.otp_mode.proofs.run.run_otp.Goals as goal

pub returns-in_err-read_list-in-Some-clause-outcome :
    goal.returns-in_err-read_list-in-Some-clause-outcome
returns-in_err-read_list-in-Some-clause-outcome g c =
    let link = g.E.Stream.link in
    let parts = command_parts c.args.command.now in
    let fault = c.in_err-read_list-in-Some.field-0.0 in
    let named : parts.list ≡ Some c.in-Some.name.now = grind arith in
    let p = err_from_is_err_and c.from_residual.result c.from_residual.ensures.1 in
    rw (p.1, p.2) (IsOutcome-list parts (g.F.Files.contents c.read_list.new.files) (link c.args.ends.now) (link c.args.ends.now) _ _ c.in-Some.name.now fault named (c.in_err-read_list-in-Some.ensures.fault fault refl) refl)

pub returns-in_err-read_list-in-Some-clause-exact :
    goal.returns-in_err-read_list-in-Some-clause-exact
returns-in_err-read_list-in-Some-clause-exact g c =
    let link = g.E.Stream.link in
    exactly (command_parts c.args.command.now) (g.F.Files.contents c.read_list.new.files) (link c.args.ends.now) (link c.args.ends.now) _ _ c.from_residual.result (returns-in_err-read_list-in-Some-clause-outcome g c)
