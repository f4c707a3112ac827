use Rattle.std.proofs.Common.{◌≡◌, ◌<◌, ◌∙◌, length, get_or, arith, sym}
use Rattle.std.specs.Char.{to_ascii_uppercase}
use Rattle.std.specs.Str.{str_to_ascii_uppercase}
use Rattle.std.proofs.lemmas.List.{length-map, get_or-map}
use Rattle.otp_words.proofs.DigitLemmas.{number_more, number_fits, fold_more}
use Rattle.otp_words.proofs.dictionary.packed.Goals as goal

pub overflow_mul-number : goal.overflow_mul-number
overflow_mul-number c = omega (arith, number_fits 8 c.loop-byte.byte-index 32 c.loop-byte.number 0 (omega arith) c.loop-byte.invariant.small (omega arith))

pub overflow_add-number : goal.overflow_add-number
overflow_add-number c =
    let low : c.from.result < 256 = omega arith in
    omega (arith, number_fits 8 c.loop-byte.byte-index 32 c.loop-byte.number c.from.result (omega arith) c.loop-byte.invariant.small low)

pub loop-byte-preserved : goal.loop-byte-preserved
loop-byte-preserved c =
    let word = c.args.word.now in
    let i = c.loop-byte.byte-index in
    let at : get_or (str_to_ascii_uppercase word) i 0 ≡ to_ascii_uppercase (get_or word i 0) = get_or-map to_ascii_uppercase word i 0 0 c.loop-byte-test.true in
    let within : i < length (str_to_ascii_uppercase word) = simp length-map c.loop-byte-test.true in
    record {
      rest = fold_more 8 c.loop-byte.number c.from.result i (str_to_ascii_uppercase word) within (c.from.ensures ∙ c.to_ascii_uppercase.ensures.value ∙ sym at) ∙ c.loop-byte.invariant.rest;
      small = number_more 8 i c.loop-byte.number c.from.result c.loop-byte.invariant.small (omega arith);
    }
