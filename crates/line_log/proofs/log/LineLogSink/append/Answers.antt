use Rattle.std.proofs.Common.{◌≡◌, false, true, List, ℕ, sym, ◌∙◌, subst}
use Rattle.outside.specs.Told.{GainsPart}
use Rattle.fixed_list.specs.FixedList.{list_of}
use Rattle.durable_log.specs.Journal.{LogParts}
use Rattle.line_log.specs.Kept.{IsLineLog, LineParts, given_of, line_parts}
use Rattle.line_log.specs.Line.{is_line}
use Rattle.line_log.proofs.Lines.{gains_last, line_broken, line_kept}
use Rattle.line_log.proofs.log.LineLogSink.append.Goals as goal

pub invariant_of-self-in-Err : goal.invariant_of-self-in-Err
invariant_of-self-in-Err g c =
    let parts : LineParts = line_parts c.self.inside.log c.self.inside.before.value (list_of c.self.inside.last) c.self.inside.refused in
    let going : c.self.inside.log.stopped ≡ false = sym c.self.invariant.flag_is ∙ c.if-self.false in
    let is : is_line c.args.bytes.now ≡ true = sym c.is_line.ensures ∙ c.if-not-is_line.false in
    let stopped : c.append.new.self.stopped ≡ true = c.in-Err.ensures.stopped.is in
    record {
      flag_is = sym stopped;
      log = subst (λ (b : LogParts). IsLineLog (line_parts c.append.new.self b (list_of c.of-self-inside.result) c.self.inside.refused)) (sym c.of-before.ensures)
          (subst (λ (last : List ℕ). IsLineLog (line_parts c.append.new.self c.self.inside.log last c.self.inside.refused)) (sym c.of-self-inside.ensures)
          (line_broken parts c.args.bytes.now is going c.self.invariant.log c.append.new.self c.self.inside.refused stopped c.in-Err.ensures.keeps_some));
    }

pub returns-in-Err-clause-part : goal.returns-in-Err-clause-part
returns-in-Err-clause-part g c =
    let parts : LineParts = line_parts c.self.inside.log c.self.inside.before.value (list_of c.self.inside.last) c.self.inside.refused in
    let going : c.self.inside.log.stopped ≡ false = sym c.self.invariant.flag_is ∙ c.if-self.false in
    let is : is_line c.args.bytes.now ≡ true = sym c.is_line.ensures ∙ c.if-not-is_line.false in
    let stopped : c.append.new.self.stopped ≡ true = c.in-Err.ensures.stopped.is in
    subst (λ (old : LineParts). GainsPart (given_of old) c.args.bytes.now (given_of (line_parts c.append.new.self c.of-before.result.value (list_of c.of-self-inside.result) c.self.inside.refused))) c.self.view_is
    (subst (λ (b : LogParts). GainsPart (given_of parts) c.args.bytes.now (given_of (line_parts c.append.new.self b (list_of c.of-self-inside.result) c.self.inside.refused))) (sym c.of-before.ensures)
    (subst (λ (last : List ℕ). GainsPart (given_of parts) c.args.bytes.now (given_of (line_parts c.append.new.self c.self.inside.log last c.self.inside.refused))) (sym c.of-self-inside.ensures)
    (gains_last parts c.args.bytes.now is going c.self.invariant.log c.append.new.self c.self.inside.refused stopped)))

pub invariant_of-self-in_default : goal.invariant_of-self-in_default
invariant_of-self-in_default g c =
    let parts : LineParts = line_parts c.self.inside.log c.self.inside.before.value (list_of c.self.inside.last) c.self.inside.refused in
    let going : c.self.inside.log.stopped ≡ false = sym c.self.invariant.flag_is ∙ c.if-self.false in
    let is : is_line c.args.bytes.now ≡ true = sym c.is_line.ensures ∙ c.if-not-is_line.false in
    let goes : c.append.new.self.stopped ≡ false = c.in_default.ensures.done.is in
    record {
      flag_is = c.if-self.false ∙ sym goes;
      log = line_kept parts c.args.bytes.now is going c.self.invariant.log c.append.new.self c.self.inside.before.value (list_of c.self.inside.last) c.self.inside.refused goes c.in_default.ensures.keeps_all c.in_default.ensures.ok;
    }
