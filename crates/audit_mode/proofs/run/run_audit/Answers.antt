use Rattle.std.proofs.Common.{refl}
use Rattle.std.proofs.lemmas.Result.{err_from_is_err_and}
use Rattle.audit_mode.specs.Commands.{command_parts}
use Rattle.audit_mode.proofs.AuditLemmas.{IsOutcome-file}
use Rattle.audit_mode.proofs.run.run_audit.Goals as goal

pub returns-in_err-answer-clause-outcome : goal.returns-in_err-answer-clause-outcome
returns-in_err-answer-clause-outcome g c =
    let trouble = c.in_err-answer.field-0.0 in
    let p = err_from_is_err_and c.from_residual.result c.from_residual.ensures.1 in
    rw (p.1, p.2) (IsOutcome-file (command_parts c.args.command.now) (g.F.Files.contents c.audit_files.new.files) (g.E.Stream.link c.args.ends.now) _ _ trouble (c.in_err-answer.ensures.trouble trouble refl))
