use Rattle.std.proofs.Common.{◌≡◌, Err, sym, subst, ◌∙◌}
use Rattle.std.proofs.lemmas.Result.{err_from_is_err_and}
use Rattle.trouble.specs.Reading.{trouble_of_log}
use Rattle.recover_mode.specs.Recovering.{IsLogTrouble}
use Rattle.recover_mode.proofs.LogLemmas.{IsLogTrouble-of}
use Rattle.recover_mode.proofs.texts.texts_of.Goals as goal

pub returns-in_err-recovered-clause-trouble : goal.returns-in_err-recovered-clause-trouble
returns-in_err-recovered-clause-trouble c = λ trouble is.
    let p = err_from_is_err_and c.from_residual.result c.from_residual.ensures.1 in
    let handed = c.in_err-recovered.field-0.0 in
    let same : trouble_of_log handed ≡ trouble = sym p.2 ∙ (let e : Err p.0 ≡ Err trouble = sym p.1 ∙ is in cc) in
    let basis = c.args.basis.now in
    subst (IsLogTrouble basis.setup basis.image.items) same (IsLogTrouble-of basis.setup basis.image.items handed c.in_err-recovered.ensures)

pub recovered_texts-requires : goal.recovered_texts-requires
recovered_texts-requires c =
    let some = c.in_ok-recovered.ensures.log in
    (c.in_ok-recovered.ensures.exact some.records some.has).ledger.made

pub returns-clause-texts : goal.returns-clause-texts
returns-clause-texts c =
    let texts = c.in_ok-recovered_texts.ensures in
    record {
      recovered = c.in_ok-recovered.recovered;
      answered = c.in_ok-recovered.ensures;
      setup_file = texts.setup_file;
      log_file = texts.log_file;
      spelled = texts.spelled;
      written = texts.written;
      lines = texts.lines;
      accepted = texts.accepted;
      line = texts.line;
    }
