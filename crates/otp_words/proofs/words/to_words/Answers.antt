use Rattle.std.proofs.Common.{◌≡◌, ◌∙◌, ◌++◌, List, ℕ, sym, ap, subst, arith, take, drop, length}
use Rattle.std.proofs.lemmas.List.{take_at}
use Rattle.otp_words.specs.Digits.{digits_of}
use Rattle.otp_words.specs.Words.{words_text, IsSixWords, spaced, words_at}
use Rattle.otp_words.proofs.WordText.{words_text-reads}
use Rattle.otp_words.proofs.words.to_words.Goals as goal

pub returns-clause-len : goal.returns-clause-len
unfolding words_text
returns-clause-len c = c.put_words.ensures.len ∙ ap (λ (n : ℕ). length (spaced (words_at c.args.dictionary.now (digits_of 11 6 n)))) c.checked.ensures.value

pub returns-clause-written : goal.returns-clause-written
unfolding words_text
returns-clause-written c = c.put_words.ensures.written ∙ ap (λ (n : ℕ). spaced (words_at c.args.dictionary.now (digits_of 11 6 n)) ++ drop c.put_words.result c.args.out.now) c.checked.ensures.value

pub returns-clause-read_back : goal.returns-clause-read_back
returns-clause-read_back c =
    let words = c.args.dictionary.now in
    let text = words_text words c.args.password in
    let same : take c.put_words.result c.put_words.new.out ≡ text = ap (λ (o : List ℕ). take c.put_words.result o) (returns-clause-written c) ∙ take_at text (drop c.put_words.result c.args.out.now) c.put_words.result (sym (returns-clause-len c)) in
    subst (λ (t : List ℕ). IsSixWords words t c.args.password) (sym same) (words_text-reads words c.args.password c.put_words.ensures.legal (omega (arith, c.checked.ensures.value, c.checked.ensures.below)))
