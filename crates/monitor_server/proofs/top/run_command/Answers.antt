use Rattle.std.proofs.Common.{Ok, ap, subst, ◌∙◌}
use Rattle.serve_mode.specs.Commands.{source_of}
use Rattle.monitor_server.specs.Around.{only_answer}
use Rattle.monitor_server.specs.Commands.{IsReading}
use Rattle.monitor_server.proofs.Apart.{drill_within}
use Rattle.monitor_server.proofs.Whole.{whole-alone, whole-drilled, whole-served, whole-unread}
use Rattle.monitor_server.proofs.top.run_command.Goals as goal

pub returns-in-Ok-Serve-clause-whole : goal.returns-in-Ok-Serve-clause-whole
returns-in-Ok-Serve-clause-whole g c =
    whole-served (source_of c.in-Ok-Serve.command) (subst (λ command. IsReading c.args.words.now (Ok command)) c.in-Ok-Serve.field-0-is c.in-Ok-Serve.ensures) c.serve_setup.ensures.serve c.serve_setup.ensures.plain c.serve_setup.ensures.ends c.serve_setup.ensures.touches

pub returns-in-Ok-Alone-clause-whole : goal.returns-in-Ok-Alone-clause-whole
returns-in-Ok-Alone-clause-whole g c =
    whole-alone c.in-Ok-Alone.command (subst (λ command. IsReading c.args.words.now (Ok command)) c.in-Ok-Alone.field-0-is c.in-Ok-Alone.ensures) c.answer_within.ensures.ran c.answer_within.ensures.spares c.answer_within.ensures.unused c.answer_within.ensures.touches

-- the number is that of the words, so it is in its range
pub play_drill-requires-clause-low : goal.play_drill-requires-clause-low
play_drill-requires-clause-low g c κs within = (drill_within c.args.words.now c.in-Ok-Drill.number (subst (λ command. IsReading c.args.words.now (Ok command)) c.in-Ok-Drill.field-0-is c.in-Ok-Drill.ensures)).0

pub play_drill-requires-clause-high : goal.play_drill-requires-clause-high
play_drill-requires-clause-high g c κs within = (drill_within c.args.words.now c.in-Ok-Drill.number (subst (λ command. IsReading c.args.words.now (Ok command)) c.in-Ok-Drill.field-0-is c.in-Ok-Drill.ensures)).1

pub returns-in-Ok-Drill-clause-whole : goal.returns-in-Ok-Drill-clause-whole
returns-in-Ok-Drill-clause-whole g c =
    whole-drilled c.in-Ok-Drill.number (subst (λ command. IsReading c.args.words.now (Ok command)) c.in-Ok-Drill.field-0-is c.in-Ok-Drill.ensures) c.play_drill.ensures.drill c.play_drill.ensures.alone c.play_drill.ensures.silent c.play_drill.ensures.no_file

pub returns-in-Err-clause-whole : goal.returns-in-Err-clause-whole
returns-in-Err-clause-whole g c =
    whole-unread c.in-Err.unread c.in-Err.ensures (c.end_unserved.ensures.said ∙ ap only_answer c.answer.ensures) c.end_unserved.ensures.world
