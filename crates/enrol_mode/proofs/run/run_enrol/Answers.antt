use Rattle.std.proofs.Common.{inr, refl}
use Rattle.std.proofs.lemmas.Result.{err_from_is_err_and}
use Rattle.fixed_list.specs.FixedList.{list_of}
use Rattle.enrol_mode.specs.Command.{command_parts}
use Rattle.enrol_mode.proofs.Exactness.{exactly}
use Rattle.enrol_mode.proofs.OutcomeLemmas.{outcome-part, outcome-phrase, outcome-printed, outcome-took, rose_after, spelled}
use Rattle.enrol_mode.proofs.run.run_enrol.Goals as goal

pub returns-in_err-phrase-clause-outcome : goal.returns-in_err-phrase-clause-outcome
returns-in_err-phrase-clause-outcome g c =
    let link = g.E.Stream.link in
    let fault = c.in_err-phrase.field-0.0 in
    let p = err_from_is_err_and c.from_residual.result c.from_residual.ensures.1 in
    rw (p.1, p.2) (outcome-phrase (command_parts c.args.command.now) (link c.args.ends.now)
    (link c.read_phrase.new.ends) _ fault (c.in_err-phrase.ensures.trouble fault refl))

pub returns-in_err-phrase-clause-exact : goal.returns-in_err-phrase-clause-exact
returns-in_err-phrase-clause-exact g c =
    exactly (command_parts c.args.command.now) _ _ _ _ (returns-in_err-phrase-clause-outcome g c)

pub returns-in_err-text-clause-outcome : goal.returns-in_err-text-clause-outcome
returns-in_err-text-clause-outcome g c =
    let link = g.E.Stream.link in
    let p = err_from_is_err_and c.from_residual-in_err-text.result c.from_residual-in_err-text.ensures.1 in
    rw (p.1, p.2) (outcome-took (list_of c.in_ok-phrase.phrase) (link c.args.ends.now) (link c.read_phrase.new.ends)
    c.in_ok-phrase.ensures.phrase)

pub returns-in_err-text-clause-exact : goal.returns-in_err-text-clause-exact
returns-in_err-text-clause-exact g c =
    exactly (command_parts c.args.command.now) _ _ _ _ (returns-in_err-text-clause-outcome g c)

pub returns-in_err-send-clause-outcome : goal.returns-in_err-send-clause-outcome
returns-in_err-send-clause-outcome g c =
    let link = g.E.Stream.link in
    let faults = g.E.Stream.faults in
    let p = err_from_is_err_and c.from_residual-in_err-send.result c.from_residual-in_err-send.ensures.1 in
    rw (p.1, p.2) (
      rose_after (faults c.args.ends.now) (faults c.read_phrase.new.ends) (faults c.send.new.self)
          c.in_ok-phrase.ensures.faults c.in_err-send.ensures.counts,
      inr (outcome-part (command_parts c.args.command.now) (list_of c.in_ok-phrase.phrase) c.as_slice-2.result.now
          (link c.args.ends.now) (link c.read_phrase.new.ends) (link c.send.new.self)
          (spelled (command_parts c.args.command.now) _ _ _ _ c.as_slice.ensures.bytes c.as_slice-2.ensures.value
          c.in_ok-text.ensures) c.in_ok-phrase.ensures.phrase c.in_err-send.ensures.part),
    )

pub returns-in_err-send-clause-exact : goal.returns-in_err-send-clause-exact
returns-in_err-send-clause-exact g c =
    exactly (command_parts c.args.command.now) _ _ _ _ (returns-in_err-send-clause-outcome g c)

pub returns-clause-outcome : goal.returns-clause-outcome
returns-clause-outcome g c =
    let link = g.E.Stream.link in
    outcome-printed (command_parts c.args.command.now) (list_of c.in_ok-phrase.phrase) c.as_slice-2.result.now
    (link c.args.ends.now) (link c.read_phrase.new.ends) (link c.send.new.self)
    (spelled (command_parts c.args.command.now) _ _ _ _ c.as_slice.ensures.bytes c.as_slice-2.ensures.value
    c.in_ok-text.ensures) c.in_ok-phrase.ensures.phrase c.in_ok-send.ensures.ok

pub returns-clause-exact : goal.returns-clause-exact
returns-clause-exact g c = exactly (command_parts c.args.command.now) _ _ _ _ (returns-clause-outcome g c)
