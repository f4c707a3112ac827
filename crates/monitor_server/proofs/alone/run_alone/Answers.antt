use Rattle.std.proofs.Common.{Ok, ap, refl, subst}
use Rattle.monitor_server.specs.Around.{only_answer}
use Rattle.monitor_server.specs.Commands.{IsReading}
use Rattle.monitor_server.proofs.Whole.{whole-alone, whole-unread}
use Rattle.monitor_server.proofs.alone.run_alone.Goals as goal

pub returns-in-Ok-Alone-clause-done : goal.returns-in-Ok-Alone-clause-done
returns-in-Ok-Alone-clause-done g c =
    whole-alone c.in-Ok-Alone.command (subst (λ command. IsReading c.args.words.now (Ok command)) c.in-Ok-Alone.field-0-is c.in-Ok-Alone.ensures) c.answer.ensures.ran c.answer.ensures.spares (record { site = refl; log = refl; events = refl; workers = refl }) c.answer.ensures.touches

pub returns-in-Err-clause-done : goal.returns-in-Err-clause-done
returns-in-Err-clause-done g c =
    whole-unread c.in-Err.unread c.in-Err.ensures (ap only_answer c.answer-in-Err.ensures) refl
