use Rattle.std.proofs.Common.{refl}
use Rattle.std.specs.Option.{option_copied}
use Rattle.std.proofs.lemmas.Result.{err_from_is_err_and}
use Rattle.otp_mode.specs.Command.{command_parts}
use Rattle.otp_mode.proofs.OutcomeLemmas.{IsPrinting-phrase}
use Rattle.otp_mode.proofs.run.print_password.Goals as goal

pub returns-in_err-phrase-clause-printing : goal.returns-in_err-phrase-clause-printing
returns-in_err-phrase-clause-printing g c =
    let link = g.E.Stream.link in
    let p = err_from_is_err_and c.from_residual.result c.from_residual.ensures.1 in
    rw (p.1, p.2) (IsPrinting-phrase (command_parts c.args.command.now) (option_copied c.args.list) (link c.args.ends.now) (link c.read_phrase.new.ends) _ c.in_err-phrase.field-0.0 (c.in_err-phrase.ensures.trouble c.in_err-phrase.field-0.0 refl))
