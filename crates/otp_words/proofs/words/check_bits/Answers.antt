use Rattle.std.proofs.Common.{◌≡◌, ℕ, ◌%◌, ◌∙◌, ap, arith}
use Rattle.std.specs.Prelude.{sum}
use Rattle.otp_words.specs.Digits.{digits_of}
use Rattle.otp_words.specs.Words.{check_bits}
use Rattle.otp_words.proofs.words.check_bits.Goals as goal

pub returns-clause-value : goal.returns-clause-value
unfolding check_bits
returns-clause-value c =
    let all : c.loop-place.place ≡ 32 = omega arith in
    ap (λ (s : ℕ). s % 4) (c.loop-place.invariant.summed ∙ ap (λ (n : ℕ). sum (digits_of 2 n c.args.password)) all)
