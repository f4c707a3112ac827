use Rattle.std.proofs.Common.{◌≡◌, ◌∙◌, ◌+◌, ◌-◌, ◌++◌, ◌∷◌, List, ℕ, sym, ap, arith, drop, length, Some, length-append, subst}
use Rattle.std.specs.Prelude.{slice_get, slice_set}
use Rattle.otp_words.specs.Digits.{digits_of}
use Rattle.otp_words.specs.Words.{spaced, words_at}
use Rattle.otp_words.proofs.WordText.{spaced_more, put_more}
use Rattle.otp_words.proofs.words.+put_words.Goals as goal

pub returns-clause-len : goal.returns-clause-len
returns-clause-len t c =
    let word = c.word-word.result.now in
    let words = c.args.dictionary.now in
    let rest = spaced (words_at words (digits_of 11 (c.args.count - 1) c.args.number)) in
    let there : slice_get words c.digit.result ≡ Some word = c.word-word.ensures.word in
    let text = spaced_more words word c.args.count c.args.number c.requires.some c.if-count-eq1.false (subst (λ (i : ℕ). slice_get words i ≡ Some word) c.digit.ensures there) in
    omega (arith, c.put_words.ensures.len, length-append word (32 ∷ rest), ap length text)

pub returns-clause-written : goal.returns-clause-written
returns-clause-written t c =
    let word = c.word-word.result.now in
    let words = c.args.dictionary.now in
    let out = c.args.out.now in
    let rest = spaced (words_at words (digits_of 11 (c.args.count - 1) c.args.number)) in
    let there : slice_get words c.digit.result ≡ Some word = c.word-word.ensures.word in
    let text = spaced_more words word c.args.count c.args.number c.requires.some c.if-count-eq1.false (subst (λ (i : ℕ). slice_get words i ≡ Some word) c.digit.ensures there) in
    let copied = ap (λ (w : List ℕ). slice_set (w ++ drop (length word) out) (length word) 32) c.copy_from_slice.ensures.after in
    put_more word rest out _ c.put_words.new.out c.put_words.result (omega (arith, c.word-word.ensures.len)) copied c.put_words.ensures.written
    ∙ ap (λ (x : List ℕ). x ++ drop (length word + 1 + c.put_words.result) out) (sym text)
