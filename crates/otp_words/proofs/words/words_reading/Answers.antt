use Rattle.std.proofs.Common.{◌≡◌, ◌∙◌, sym, Some}
use Rattle.otp_words.specs.Digits.{number_of}
use Rattle.otp_words.proofs.NumberLemmas.{checked_only}
use Rattle.otp_words.proofs.words.words_reading.Goals as goal

pub returns-clause-only : goal.returns-clause-only
returns-clause-only c = λ password small is.
    let number = c.in_ok-number.number in
    let some : Some number ≡ Some (number_of 11 is.0) = sym c.in_ok-number.was ∙ c.number_behind.ensures.only is.0 is.1 is.2 in
    let same : number ≡ number_of 11 is.0 = cc in
    checked_only number password c.checked.result c.then_some.result (same ∙ is.3) c.checked.ensures.value c.then_some.ensures
